-- A difference of two unsigned numbers as a signed one: what fits, and which it is. Assumes nothing.
use Prim.Native.Nat.{ℕ, ◌+◌, ◌<◌, ◌≤◌}
use native.Mathlib.Omega.{arith}
use mathlib.Core.Path.{◌≡◌}
use mathlib.Core.Logic.{⊎_elim}
use borrow.Author.Tests.{lt-ltb, le-ltb}
use lib.IntN.{sub_ℕ}
use mir.Syntax.{w64}
use mir.Val.{SFits, to_z, of_z}
use mir.ValLaws.{to_z-of_z}
use Rattle.rules.specs.Limits.{most}
use Rattle.base_digits.proofs.DigitTests.{below-or-from}

-- p less m, where that is below 0
module _ (p m : ℕ) (below : p < m) (small : m ≤ most) where
  minus-fits : SFits w64 (sub_ℕ p m)
  minus-fits = rw (lt-ltb p m below) (record { sfits = omega arith })

-- stored and read back, the difference is the same
pub difference-kept : (p m : ℕ) → p + m ≤ most → to_z w64 (of_z w64 (sub_ℕ p m)) ≡ sub_ℕ p m
difference-kept p m h = to_z-of_z w64 (sub_ℕ p m) (⊎_elim (λ b. minus-fits p m b (omega arith)) (λ b. rw (le-ltb p m b) (record { sfits = omega arith })) (below-or-from p m))
