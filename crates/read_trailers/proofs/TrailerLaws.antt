-- A trailer's tests as the code makes them are the rules' tests. Assumes nothing.
use Rattle.std.proofs.Common.{◌≡◌, ℕ, ◌+◌, ◌-◌, ◌<◌, ◌≤◌, Bool, true, false, leb, eqb, ◌&&◌, arith}
use Rattle.std.proofs.lemmas.Bool.Decides.{nat_tests}
use Rattle.std.specs.Int.{abs_diff}

-- 14: how far the sides lie apart
pub within_diff : (a b m : ℕ) → leb (abs_diff a b) m ≡ (leb a (m + b) && leb b (m + a))
within_diff a b m = grind (arith, nat_tests)

-- 11: a total with a minus, and one without
module _ (a b m : ℕ) where
  pub minus_right : a ≤ b → eqb (b - a) m ≡ eqb (a + m) (0 + b)
  minus_right h = grind (arith, nat_tests)

  pub minus_wrong : b < a → leb a b ≡ eqb (a + m) (0 + b)
  minus_wrong h = grind (arith, nat_tests)

  pub plus_right : b ≤ a → eqb (a - b) m ≡ eqb (a + 0) (m + b)
  plus_right h = grind (arith, nat_tests)

  pub plus_wrong : a < b → leb b a ≡ eqb (a + 0) (m + b)
  plus_wrong h = grind (arith, nat_tests)
