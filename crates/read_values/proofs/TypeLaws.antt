-- The classes of type codes, by the tests of `class_of`. Assumes nothing.
use Prim.Native.Nat.{ℕ, ◌≤◌, ◌<◌}
use mathlib.Core.Path.{◌≡◌}
use mathlib.Core.Bool.{true, false}
use native.Mathlib.Omega.{arith}
use borrow.Author.Tests.{ne_eqb}
use Rattle.rules.specs.Bytes.{Bytes}
use Rattle.rules.specs.Numbers.{digits}
use Rattle.rules.specs.TypeCodes.{Class, status, summary_only, summary_or_detail, non_monetary, unknown, class_of, type_class}
use Rattle.base_digits.specs.NumbersRead.{value_of}
use Rattle.base_digits.proofs.DigitTests.{within, below, above}
use Rattle.base_digits.proofs.ReadingLaws.{value-is}

module _ (n : ℕ) where
  pub none : n < 1 → unknown ≡ class_of n
  unfolding class_of
  none h = let e : n ≡ 0 = omega arith in rw e

  pub statuses : 1 ≤ n → n < 100 → status ≡ class_of n
  unfolding class_of
  statuses h g = rw (within 1 99 n h (omega arith))

  pub only-100 : n ≡ 100 → summary_only ≡ class_of n
  unfolding class_of
  only-100 e = rw e

  pub only-400 : n ≡ 400 → summary_only ≡ class_of n
  unfolding class_of
  only-400 e = rw e

  pub non-monetary : n ≡ 890 → non_monetary ≡ class_of n
  unfolding class_of
  non-monetary e = rw e

  pub customised : 900 ≤ n → n < 920 → status ≡ class_of n
  unfolding class_of
  customised h g = rw (above 1 99 n (omega arith), within 900 919 n h (omega arith))

  module _ (h : 100 ≤ n) (p : n ≡ 100 → ⊥) (q : n ≡ 400 → ⊥) where
    pub low : n < 800 → summary_or_detail ≡ class_of n
    unfolding class_of
    low g =
        rw (above 1 99 n (omega arith), below 900 919 n (omega arith), ne_eqb n 100 p, ne_eqb n 400 q, within 101 799 n (omega arith) (omega arith))

    module _ (g : 800 ≤ n) (m : n ≡ 890 → ⊥) where
      pub gap : n < 900 → unknown ≡ class_of n
      unfolding class_of
      gap f =
          rw (above 1 99 n (omega arith), below 900 919 n f, ne_eqb n 100 p, ne_eqb n 400 q, above 101 799 n (omega arith), below 920 999 n (omega arith), ne_eqb n 890 m)

      pub high : 920 ≤ n → n < 1000 → summary_or_detail ≡ class_of n
      unfolding class_of
      high f k =
          rw (above 1 99 n (omega arith), above 900 919 n (omega arith), ne_eqb n 100 p, ne_eqb n 400 q, above 101 799 n (omega arith), within 920 999 n f (omega arith))

      pub beyond : 1000 ≤ n → unknown ≡ class_of n
      unfolding class_of
      beyond f =
          rw (above 1 99 n (omega arith), above 900 919 n (omega arith), ne_eqb n 100 p, ne_eqb n 400 q, above 101 799 n (omega arith), above 920 999 n (omega arith), ne_eqb n 890 m)

pub type-not : (s : Bytes) → digits 3 3 s ≡ false → unknown ≡ type_class s
unfolding type_class
type-not s e = rw e

pub type-is : (s : Bytes) (n : ℕ) (c : Class) → digits 3 3 s ≡ true → n ≡ value_of s → c ≡ class_of n → c ≡ type_class s
unfolding type_class
type-is s n c d e p = rw (d, ← value-is 3 3 s d (omega arith), ← e) p
