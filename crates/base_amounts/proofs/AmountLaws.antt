-- The amount that is read, by the tests of the code; of a field that is empty or a number it is the rules' amount. Assumes nothing.
use Prim.Native.Nat.{ℕ}
use native.Mathlib.Omega.{arith}
use mathlib.Core.Path.{◌≡◌, refl}
use mathlib.Core.List.{[], ◌∷◌}
use mathlib.Core.Bool.{true, false≢true}
use lib.Dec.{eqb}
use lib.ListN.{drop}
use borrow.Author.Tests.{eq-eqb, ne_eqb}
use Rattle.std.specs.Prelude.{Some, None, slice_get}
use Rattle.rules.specs.Bytes.{Bytes, is_empty, plus, minus}
use Rattle.rules.specs.Numbers.{without_sign, as_sum}
use Rattle.rules.specs.Amounts.{Amount, empty, unsigned, with_plus, with_minus, amount_in, magnitude_of, amount_adds}
use Rattle.rules.specs.Grammar.{is_signed}
use Rattle.rules.proofs.Tests.{Known, holds, fails, known}
use Rattle.base_digits.specs.NumbersRead.{value_of}
use Rattle.base_digits.proofs.ReadingLaws.{value-is}
use Rattle.base_amounts.specs.AmountsRead.{amount_read, is_minus}

-- ---- by the first byte

pub read_none : (f : Bytes) → None ≡ slice_get f 0 → empty ≡ amount_read f
unfolding amount_read
read_none [] h = refl
read_none (c ∷ f) h = cc

module _ (f : Bytes) (b n : ℕ) (h : Some b ≡ slice_get f 0) (v : n ≡ value_of (without_sign f)) where
  -- the first byte and the rest
  first : (g : Bytes) → Some b ≡ slice_get g 0 → g ≡ b ∷ drop 1 g
  first [] e = cc
  first (c ∷ g) e = let same : b ≡ c = cc in rw same

  pub read-plus : b ≡ plus → with_plus n ≡ amount_read f
  unfolding amount_read without_sign
  read-plus e = let s = first f h in let t = eq-eqb b plus e in let w : n ≡ value_of (drop 1 f) = rw (s, t) at v in rw (s, t, w)

  pub read-minus : b ≡ minus → with_minus n ≡ amount_read f
  unfolding amount_read without_sign
  read-minus e = let s = first f h in let q = ne_eqb b plus (λ p. omega arith) in let t = eq-eqb b minus e in let w : n ≡ value_of (drop 1 f) = rw (s, q, t) at v in rw (s, q, t, w)

  pub read-unsigned : ¬ (b ≡ plus) → ¬ (b ≡ minus) → unsigned n ≡ amount_read f
  unfolding amount_read without_sign
  read-unsigned p m = let s = first f h in let q = ne_eqb b plus p in let t = ne_eqb b minus m in let w = rw (s, q, t) at v in rw (s, q, t, w)

-- ---- the amount that is read is the rules' `amount_in`

-- of a number with at most a sign
pub amount-signed : (f : Bytes) → is_signed f ≡ true → amount_read f ≡ amount_in f
unfolding amount_read amount_in is_signed without_sign
amount-signed [] e = refl
amount-signed (b ∷ f) e = go (known (eqb b plus)) (known (eqb b minus))
  where
    go : Known (eqb b plus) → Known (eqb b minus) → amount_read (b ∷ f) ≡ amount_in (b ∷ f)
    go (holds p) m = let t = rw p at e in rw (p, value-is 1 18 f t (omega arith))
    go (fails p) (holds m) = let t = rw (p, m) at e in rw (p, m, value-is 1 18 f t (omega arith))
    go (fails p) (fails m) = let t = rw (p, m) at e in rw (p, m, value-is 1 18 (b ∷ f) t (omega arith))

-- of an empty field
pub amount-empty : (f : Bytes) → is_empty f ≡ true → amount_read f ≡ amount_in f
unfolding amount_read amount_in is_empty
amount-empty [] e = refl
amount-empty (b ∷ f) e = absurd (false≢true e)

-- ---- its sign and its magnitude say what it adds

pub adds-signed : (a : Amount) → as_sum (record { negative = is_minus a; magnitude = magnitude_of a }) ≡ amount_adds a
adds-signed empty = refl
adds-signed (unsigned n) = refl
adds-signed (with_plus n) = refl
adds-signed (with_minus n) = refl
