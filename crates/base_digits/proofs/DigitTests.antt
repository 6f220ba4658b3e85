-- What tests say: an order either way, a true `&&`, and `between` by its two orders. Assumes nothing.
use Rattle.std.proofs.Common.{◌≡◌, ℕ, ◌<◌, ◌≤◌, Bool, true, false, ◌&&◌, ltb, leb, ◌⊎◌, refl, inl, inr, ltb-false, ltb-true, le-leb, leb-true}
use mathlib.Core.Bool.{and-false, false≢true}
use borrow.Author.Tests.{lt-leb}
use Rattle.rules.specs.Bytes.{between}

-- a number is below another, or not
pub below-or-from : (n k : ℕ) → (n < k) ⊎ (k ≤ n)
below-or-from n k = go (ltb n k) refl
  where
    go : (b : Bool) → ltb n k ≡ b → (n < k) ⊎ (k ≤ n)
    go true e = inl (ltb-true n k e)
    go false e = inr (ltb-false n k e)

-- a true `&&` has two true halves
pub and_left : (a b : Bool) → (a && b) ≡ true → a ≡ true
and_left true b e = refl
and_left false b e = e

pub and_right : (a b : Bool) → (a && b) ≡ true → b ≡ true
and_right true b e = e
and_right false b e = absurd (false≢true e)

module _ (lo hi n : ℕ) where
  pub within : lo ≤ n → n ≤ hi → between lo hi n ≡ true
  within h g = rw (le-leb lo n h, le-leb n hi g)

  pub below : n < lo → between lo hi n ≡ false
  below h = rw (lt-leb lo n h)

  pub above : hi < n → between lo hi n ≡ false
  above h = rw (lt-leb n hi h) (and-false (leb lo n))

  pub at_least : between lo hi n ≡ true → lo ≤ n
  at_least e = leb-true lo n (and_left (leb lo n) (leb n hi) e)

  pub at_most : between lo hi n ≡ true → n ≤ hi
  at_most e = leb-true n hi (and_right (leb lo n) (leb n hi) e)

  -- where the lower bound holds, the upper one decides
  pub from_low : lo ≤ n → leb n hi ≡ between lo hi n
  from_low h = rw (le-leb lo n h)
