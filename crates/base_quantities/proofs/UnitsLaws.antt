-- Sums of units: the cases of the checked sums, and what their answers say. Assumes nothing.
use Rattle.std.proofs.Common.{◌≡◌, ℕ, ◌+◌, ◌<◌, ◌≤◌, Bool, true, false, cond, leb, refl, ap, mod-eq_of_lt, arith, le-leb, leb-false, leb-true}
use borrow.Author.Tests.{lt-leb}
use Rattle.rules.specs.Numbers.{Sum, ◌⊕◌, magnitudes}
use Rattle.rules.specs.Limits.{most}
use Rattle.base_quantities.specs.QuantityMeanings.{sum_meant, units_of, wrapped, wrapped_sum, units_within}
use Rattle.base_quantities.specs.declared.Units.{Units}
use Rattle.std.specs.Prelude.{Some, None}

-- ---- what an answer says

-- which way the test went
answer-within : (b : Bool) (u w : Units) → Some u ≡ cond b (Some w) None → (b ≡ true) × (u ≡ w)
answer-within true u w e = (refl, cc)
answer-within false u w e = let z : ◌≡◌ {A = ℕ} 0 1 = cc in absurd (omega arith)

answer-beyond : (b : Bool) (w : Units) → None ≡ cond b (Some w) None → b ≡ false
answer-beyond true w e = let z : ◌≡◌ {A = ℕ} 0 1 = cc in absurd (omega arith)
answer-beyond false w e = refl

module _ (a : Sum) (u : Units) (e : Some u ≡ units_within a) where
  -- the units that are given are the sum
  pub within-is : sum_meant u ≡ a
  unfolding units_within
  within-is = ap sum_meant (answer-within (leb (magnitudes a) most) u (units_of a) e).1

  -- its magnitudes are at most the largest
  pub within-most : magnitudes a ≤ most
  unfolding units_within
  within-most = leb-true (magnitudes a) most (answer-within (leb (magnitudes a) most) u (units_of a) e).0

-- the magnitudes pass the largest
pub beyond-most : (a : Sum) → None ≡ units_within a → most < magnitudes a
unfolding units_within
beyond-most a e = leb-false (magnitudes a) most (answer-beyond (leb (magnitudes a) most) (units_of a) e)

-- ---- the cases of the answers

pub sum-within : (a : Sum) (u : Units) → u.0 ≡ a.pluses → u.1 ≡ a.minuses → magnitudes a ≤ most → Some u ≡ units_within a
unfolding units_within
sum-within a u p m h = rw (le-leb (magnitudes a) most h, ← p, ← m)

pub sum-beyond : (a : Sum) → most < magnitudes a → None ≡ units_within a
unfolding units_within
sum-beyond a h = rw (lt-leb (magnitudes a) most h)

-- ---- numbers of 64 bits

-- a number that fits stays as it is
pub not-wrapped : (n : ℕ) → n ≤ 18_446_744_073_709_551_615 → wrapped n ≡ n
not-wrapped n h = mod-eq_of_lt (omega arith)

-- two sums whose sides fit stay as they are together
pub sum-not-wrapped : (a b : Sum) → a.pluses + b.pluses ≤ 18_446_744_073_709_551_615 → a.minuses + b.minuses ≤ 18_446_744_073_709_551_615
    → wrapped_sum (a ⊕ b) ≡ a ⊕ b
sum-not-wrapped a b p m = rw (not-wrapped (a.pluses + b.pluses) p, not-wrapped (a.minuses + b.minuses) m)
