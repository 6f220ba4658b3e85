-- What the loops know that test bytes and read digits, the cases of their answers, and what a caller knows who tested digits. Assumes nothing.
use Rattle.std.proofs.Common.{◌≡◌, ℕ, ◌+◌, ◌-◌, ◌*◌, ◌^◌, ◌<◌, ◌≤◌, Bool, true, false, ◌&&◌, length, get_or, take, drop, sym, refl, ap, ◌∙◌, zero-le, lt_of_lt_of_le, pow-suc, add-one, arith, take-append-drop, drop_of_length-le, length-take, drop-cons}
use native.Mathlib.Nat.{pow-le-pow_right, min-le_left}
use mathlib.Core.Bool.{and-false}
use Rattle.rules.specs.Bytes.{Bytes, all, between}
use Rattle.rules.specs.Numbers.{is_digit, digits, number_from, number}
use Rattle.base_digits.specs.NumbersRead.{value_of}
use Rattle.base_digits.proofs.DigitTests.{and_left, and_right, within, below, above, at_most, at_least}
use Rattle.base_digits.proofs.DigitStrings.{all_append}

-- ---- one byte more

all_drop : (test : ℕ → Bool) (s : Bytes) (i : ℕ) → i < length s → all test (drop i s) ≡ (test (get_or s i 0) && all test (drop (i + 1) s))
unfolding all
all_drop test s i h = rw (add-one i, drop-cons s i 0 h)

number-drop : (s : Bytes) (i v : ℕ) → i < length s → number_from v (drop i s) ≡ number_from (v * 10 + (get_or s i 0 - 48)) (drop (i + 1) s)
unfolding number_from
number-drop s i v h = rw (add-one i, drop-cons s i 0 h)

-- ---- every byte so far passes the test: what is left decides

module _ (test : ℕ → Bool) (s : Bytes) (i : ℕ) (left : all test (drop i s) ≡ all test s) where
  pub go_on : i < length s → test (get_or s i 0) ≡ true → all test (drop (i + 1) s) ≡ all test s
  go_on h e = rw (all_drop test s i h, e) at left

  pub stop : i < length s → test (get_or s i 0) ≡ false → false ≡ all test s
  stop h e = rw (all_drop test s i h, e) at left

  pub done : length s ≤ i → true ≡ all test s
  unfolding all
  done h = rw (drop_of_length-le s h) at left

-- ---- i digits are read, and v is their value

pub record Reading (s : Bytes) (i v : ℕ) : Type 0 where
  pub inside : i ≤ length s
  pub small : v < 10 ^ i
  pub value : number_from v (drop i s) ≡ number s
  pub digits : all is_digit (drop i s) ≡ all is_digit s

pub start : (s : Bytes) → Reading s 0 0
start s = record { inside = zero-le; small = omega arith; value = refl; digits = refl }

pub turn : (s : Bytes) (i v d : ℕ) → Reading s i v → i < length s → 48 ≤ get_or s i 0 → get_or s i 0 ≤ 57 → d ≡ get_or s i 0 - 48
    → Reading s (i + 1) (v * 10 + d)
turn s i v d r h lo hi e =
    record {
      inside = omega arith;
      small = rw (add-one i, pow-suc 10 i) (omega arith);
      value = rw e (sym (number-drop s i v h) ∙ r.value);
      digits = go_on is_digit s i r.digits h (within 48 57 (get_or s i 0) lo hi);
    }

-- at most k digits are read: their value is below 10^k
pub bounded : (k : ℕ) (s : Bytes) (i v : ℕ) → Reading s i v → i ≤ k → v < 10 ^ k
bounded k s i v r h = lt_of_lt_of_le r.small (pow-le-pow_right {n = 10} (omega arith) {i = i} {j = k} h)

-- ---- the cases of the answers

module _ (lo hi : ℕ) (s : Bytes) where
  pub digits-short : length s < lo → false ≡ digits lo hi s
  unfolding digits
  digits-short h = rw (below lo hi (length s) h)

  pub digits_long : hi < length s → false ≡ digits lo hi s
  unfolding digits
  digits_long h = rw (above lo hi (length s) h)

  pub digits-all : (r : Bool) → lo ≤ length s → length s ≤ hi → r ≡ all is_digit s → r ≡ digits lo hi s
  unfolding digits
  digits-all r h g e = rw (within lo hi (length s) h g) e

pub value-long : (s : Bytes) → 18 < length s → 0 ≡ value_of s
unfolding value_of
value-long s h = rw (← digits_long 0 18 s h)

module _ (s : Bytes) (i v : ℕ) (r : Reading s i v) where
  pub value-bad : i < length s → is_digit (get_or s i 0) ≡ false → 0 ≡ value_of s
  unfolding value_of digits
  value-bad h e = rw (← stop is_digit s i r.digits h e, and-false (between 0 18 (length s)))

  pub value_read : length s ≤ i → length s ≤ 18 → v ≡ value_of s
  unfolding value_of number_from
  value_read h g =
      let v-is = rw (drop_of_length-le s h) at r.value in
      rw (← digits-all 0 18 s true zero-le g (done is_digit s i r.digits h)) v-is

-- ---- what a caller knows who tested the digits

module _ (lo hi : ℕ) (s : Bytes) (e : digits lo hi s ≡ true) where
  -- how many there are
  pub digits-at-least : lo ≤ length s
  unfolding digits
  digits-at-least = at_least lo hi (length s) (and_left (between lo hi (length s)) (all is_digit s) e)

  pub digits-at-most : length s ≤ hi
  unfolding digits
  digits-at-most = at_most lo hi (length s) (and_left (between lo hi (length s)) (all is_digit s) e)

  -- all are digits
  pub digits_are : all is_digit s ≡ true
  unfolding digits
  digits_are = and_right (between lo hi (length s)) (all is_digit s) e

-- exactly so many
pub digits-length : (n : ℕ) (s : Bytes) → digits n n s ≡ true → length s ≡ n
digits-length n s e = omega (arith, digits-at-least n n s e, digits-at-most n n s e)

-- the value of up to 18 digits is their number
pub value-digits : (s : Bytes) → length s ≤ 18 → all is_digit s ≡ true → value_of s ≡ number s
unfolding value_of
value-digits s h e = rw (← digits-all 0 18 s true zero-le h (sym e))

-- so it is where from lo to hi digits were found
pub value-is : (lo hi : ℕ) (s : Bytes) → digits lo hi s ≡ true → hi ≤ 18 → value_of s ≡ number s
value-is lo hi s e g = value-digits s (omega (arith, digits-at-most lo hi s e)) (digits_are lo hi s e)

-- and so it is of a part of digits
pub value-part : (lo hi k j : ℕ) (s : Bytes) → digits lo hi s ≡ true → k ≤ 18 → value_of (take k (drop j s)) ≡ number (take k (drop j s))
value-part lo hi k j s e g =
    let n : length (take k (drop j s)) ≤ k = rw (length-take k (drop j s)) (min-le_left k (length (drop j s))) in
    value-digits (take k (drop j s)) (omega arith) (and_left (all is_digit (take k (drop j s))) (all is_digit (drop k (drop j s))) (halves k (drop j s) after))
  where
    halves : (m : ℕ) (t : Bytes) → all is_digit t ≡ true → (all is_digit (take m t) && all is_digit (drop m t)) ≡ true
    halves m t d = sym (all_append is_digit (take m t) (drop m t)) ∙ ap (all is_digit) (take-append-drop m t) ∙ d

    after : all is_digit (drop j s) ≡ true
    after = and_right (all is_digit (take j s)) (all is_digit (drop j s)) (halves j s (digits_are lo hi s e))
