-- An amount's bytes against its form and its magnitude: each gives back the other, up to leading zeros. Assumes nothing.
use Prim.Native.Nat.{ℕ, zero, suc, ◌+◌, ◌≤◌}
use native.Mathlib.Omega.{arith}
use mathlib.Core.Path.{◌≡◌, refl, sym, ap, ◌∙◌}
use mathlib.Core.List.{[], ◌∷◌}
use mathlib.Core.Bool.{true, not, ◌&&◌, false≢true}
use lib.Dec.{eqb}
use lib.ListN.{length, replicate, length-append, length-replicate}
use borrow.Author.Tests.{eqb-true, eqb-false}
use Rattle.rules.specs.Bytes.{Bytes, plus, minus, is_empty, all}
use Rattle.rules.specs.Numbers.{is_digit, number, number_from, decimal, without_sign}
use Rattle.rules.specs.Amounts.{Amount, empty, unsigned, with_plus, with_minus, amount_in}
use Rattle.rules.proofs.Tests.{Known, holds, fails, known}
use Rattle.base_digits.proofs.DigitStrings.{number-zeros, number-decimal, decimal-small, decimal-number, decimal-some, decimal-digits, first-low, after-are}
use Rattle.base_digits.proofs.SignLaws.{unsigned-digits}
use Rattle.laws_amounts.specs.AmountWords.{is_amount, with_zeros, written_with, GivenBack}

-- ---- digits of any length

-- digits are those of their number after some zeros
pub record Zeros (ds : Bytes) : Type 0 where
  pub zeros : ℕ
  pub bytes : ds ≡ with_zeros zeros (number ds)

-- a zero more in front
zero_more : (xs : Bytes) → Zeros xs → Zeros (48 ∷ xs)
unfolding number_from
zero_more xs z = record { zeros = suc z.zeros; bytes = ap (λ (bs : Bytes). 48 ∷ bs) z.bytes }

-- the digit 0 alone
zero-alone : Zeros (48 ∷ [])
unfolding number_from
zero-alone = record { zeros = 0; bytes = sym (decimal-small 0 (omega arith)) }

-- a first digit that is a zero, or isn't
by_first : (x : ℕ) (xs : Bytes) → all is_digit (x ∷ xs) ≡ true → Zeros (48 ∷ xs) → Known (eqb x 48) → Zeros (x ∷ xs)
by_first x xs e z (holds h) = rw (eqb-true x 48 h) z
by_first x xs e z (fails h) =
    let low = first-low x xs e in
    record { zeros = 0; bytes = sym (decimal-number x xs e (omega (arith, eqb-false x 48 h))) }

-- a zero before digits, and before none
after-zero : (xs : Bytes) → all is_digit xs ≡ true → Zeros (48 ∷ xs)
after-zero [] e = zero-alone
after-zero (x ∷ xs) e = zero_more (x ∷ xs) (by_first x xs e (after-zero xs (after-are x xs e)) (known (eqb x 48)))

-- digits, at least one, are those of their number after some zeros
pub digits-back : (x : ℕ) (xs : Bytes) → all is_digit (x ∷ xs) ≡ true → Zeros (x ∷ xs)
digits-back x xs e = by_first x xs e (after-zero xs (after-are x xs e)) (known (eqb x 48))

-- ---- an amount given back

module _ (bs : Bytes) (z : Zeros bs) where
  plus-back : GivenBack (plus ∷ bs)
  unfolding amount_in
  plus-back = record { zeros = z.zeros; bytes = ap (λ (ds : Bytes). plus ∷ ds) z.bytes }

  minus-back : GivenBack (minus ∷ bs)
  unfolding amount_in
  minus-back = record { zeros = z.zeros; bytes = ap (λ (ds : Bytes). minus ∷ ds) z.bytes }

digits-given : (ds : Bytes) → (not (is_empty ds) && all is_digit ds) ≡ true → Zeros ds
unfolding is_empty
digits-given [] e = absurd (false≢true e)
digits-given (x ∷ xs) e = digits-back x xs e

unsigned-given : (b : ℕ) (bs : Bytes) → (not (is_empty (b ∷ bs)) && all is_digit (b ∷ bs)) ≡ true → GivenBack (b ∷ bs)
unfolding is_empty
unsigned-given b bs e =
    let z = digits-back b bs e in
    record { zeros = z.zeros; bytes = rw (unsigned-digits (b ∷ bs) (omega arith) e) z.bytes }

-- by its first byte: a plus, a minus, or a digit
first-given : (b : ℕ) (bs : Bytes) → is_amount (b ∷ bs) ≡ true → Known (eqb b plus) → Known (eqb b minus) → GivenBack (b ∷ bs)
unfolding is_empty without_sign
first-given b bs e (holds p) m = rw (eqb-true b plus p) (plus-back bs (digits-given bs (rw p at e)))
first-given b bs e (fails p) (holds m) = rw (eqb-true b minus m) (minus-back bs (digits-given bs (rw (p, m) at e)))
first-given b bs e (fails p) (fails m) = unsigned-given b bs (rw (p, m) at e)

pub given_back : (bs : Bytes) → is_amount bs ≡ true → GivenBack bs
unfolding amount_in
given_back [] e = record { zeros = 0; bytes = refl }
given_back (b ∷ bs) e = first-given b bs e (known (eqb b plus)) (known (eqb b minus))

-- ---- an amount written out

-- the digits after zeros: their number, that they are digits, and at least one
module _ (zeros n : ℕ) where
  zeros-number : number (with_zeros zeros n) ≡ n
  zeros-number = number-zeros zeros (decimal n) ∙ number-decimal n

  zeros-length : length (with_zeros zeros n) ≡ zeros + length (decimal n)
  zeros-length = length-append (replicate zeros 48) (decimal n) ∙ rw length-replicate

  zeros-some : 1 ≤ length (with_zeros zeros n)
  zeros-some = omega (arith, zeros-length, decimal-some n)

-- zeros are digits
zeros-digits : (zeros n : ℕ) → all is_digit (with_zeros zeros n) ≡ true
unfolding all
zeros-digits zero n = decimal-digits n
zeros-digits (suc zeros) n = zeros-digits zeros n

-- read as the same form and magnitude
pub read_back : (k : ℕ) (a : Amount) → amount_in (written_with k a) ≡ a
unfolding amount_in
read_back k empty = refl
read_back k (unsigned n) =
    unsigned-digits (with_zeros k n) (zeros-some k n) (zeros-digits k n) ∙ ap unsigned (zeros-number k n)
read_back k (with_plus n) = ap with_plus (zeros-number k n)
read_back k (with_minus n) = ap with_minus (zeros-number k n)

-- ---- as long, the same

-- as long, as many k
same-zeros : (y z n : ℕ) → length (with_zeros y n) ≡ length (with_zeros z n) → with_zeros y n ≡ with_zeros z n
same-zeros y z n e =
    let same : y ≡ z = omega (arith, zeros-length y n, zeros-length z n) in
    ap (λ (k : ℕ). with_zeros k n) same

-- the same amount written out twice
same-written : (y z : ℕ) (a : Amount) → length (written_with y a) ≡ length (written_with z a) → written_with y a ≡ written_with z a
same-written y z empty e = refl
same-written y z (unsigned n) e = same-zeros y z n e
same-written y z (with_plus n) e = ap (λ (ds : Bytes). plus ∷ ds) (same-zeros y z n (omega arith))
same-written y z (with_minus n) e = ap (λ (ds : Bytes). minus ∷ ds) (same-zeros y z n (omega arith))

pub same-given : (bs cs : Bytes) → GivenBack bs → GivenBack cs → amount_in bs ≡ amount_in cs → length bs ≡ length cs → bs ≡ cs
same-given bs cs b c a l =
    let other : cs ≡ written_with c.zeros (amount_in bs) = c.bytes ∙ ap (written_with c.zeros) (sym a) in
    b.bytes ∙ same-written b.zeros c.zeros (amount_in bs) (ap length (sym b.bytes) ∙ l ∙ ap length other) ∙ sym other
