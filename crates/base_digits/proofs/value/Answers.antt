-- The goals of `value`. Assumes nothing.
use Rattle.std.proofs.Common.{◌≡◌, ℕ, zero, suc, ◌+◌, ◌%◌, ◌<◌, ◌≤◌, true, false, [], ◌∷◌, ◌++◌, length, length-drop, take, take_all, Bor, drop, replicate, sym, refl, ap, ◌∙◌, ⊎_elim, zero-le, arith, take-append-drop}
use native.Mathlib.Nat.{one-le-pow}
use Rattle.rules.specs.Bytes.{Bytes, all, between}
use Rattle.rules.specs.Numbers.{is_digit, digits, number}
use Rattle.base_digits.specs.NumbersRead.{value_of}
use Rattle.base_digits.proofs.DigitTests.{within, below-or-from, and_left, and_right, below, above, at_least, at_most}
use Rattle.base_digits.proofs.DigitStrings.{number-zeros, all_append}
use Rattle.base_digits.proofs.ReadingLaws.{Reading, start, turn, bounded, value-long, value-bad, value_read}
use Rattle.base_digits.proofs.value.Goals as goal
use Rattle.base_digits.proofs.value.Goals.{then-s-ge-LONG_NUMBER+else-s-gt-MOST_DIGITS+then-all_between, then-s-ge-LONG_NUMBER+else-s-gt-MOST_DIGITS+else-all_between, else-s-ge-LONG_NUMBER}

-- ---- leading zeros, any number of them: `number-zeros` says that they count nothing

-- bytes that are all zeros
zeros-are : (k : ℕ) (s : Bytes) → k ≤ length s → all (between 48 48) (take k s) ≡ true → take k s ≡ replicate k 48
unfolding all
zeros-are zero s h e = refl
zeros-are (suc k) [] h e = absurd (omega arith)
zeros-are (suc k) (x ∷ xs) h e =
    let here = and_left (between 48 48 x) (all (between 48 48) (take k xs)) e in
    let x-is : x ≡ 48 = omega (arith, at_least 48 48 x here, at_most 48 48 x here) in
    rw (x-is, zeros-are k xs (omega arith) (and_right (between 48 48 x) (all (between 48 48) (take k xs)) e))

-- zeros are digits
zeros-digits : (k : ℕ) → all is_digit (replicate k 48) ≡ true
unfolding all
zeros-digits zero = refl
zeros-digits (suc k) = zeros-digits k

-- to pass zeros in front is to read them
passed : (k : ℕ) (s : Bytes) → k ≤ length s → all (between 48 48) (take k s) ≡ true → Reading s k 0
passed k s h e =
    let cut : replicate k 48 ++ drop k s ≡ s = ap (λ (xs : Bytes). xs ++ drop k s) (sym (zeros-are k s h e)) ∙ take-append-drop k s in
    record {
      inside = h;
      small = one-le-pow k 10 (omega arith);
      value = sym (number-zeros k (drop k s)) ∙ ap number cut;
      digits = sym (rw (zeros-digits k) at (all_append is_digit (replicate k 48) (drop k s))) ∙ ap (all is_digit) cut;
    }

-- what is left without them has the value of the whole
left-value : (k : ℕ) (s : Bytes) → length s ≤ 18 → Reading s k 0 → value_of (drop k s) ≡ value_of s
unfolding value_of digits
left-value k s g r =
    let few : length (drop k s) ≤ 18 = omega (arith, length-drop k s) in
    rw (within 0 18 (length (drop k s)) zero-le few, within 0 18 (length s) zero-le g, r.value, r.digits)

-- ---- one byte, less 48 and wrapped

-- over 9: it is no digit
no_digit : (b d : ℕ) → (d + 48) % 256 ≡ b → d < 256 → 9 < d → is_digit b ≡ false
no_digit b d e h g = ⊎_elim (below 48 57 b) (λ from. above 48 57 b (omega arith)) (below-or-from b 48)

-- else it is that digit
digit : (b d : ℕ) → (d + 48) % 256 ≡ b → d ≤ 9 → b ≡ d + 48
digit b d e h = omega arith

-- ---- the goals

pub returns-then-s-gt-MOST_DIGITS : goal.returns-then-s-gt-MOST_DIGITS
returns-then-s-gt-MOST_DIGITS c = (value-long _ c.if-s-gt-MOST_DIGITS.true, zero-le)

pub loop-b-init : goal.loop-b-init
loop-b-init c =
    let s = c.args.s.now in
    elim c.if-s-ge-LONG_NUMBER.branch [
      | then-s-ge-LONG_NUMBER+else-s-gt-MOST_DIGITS+then-all_between w ↦
          let rest-is : c.if-s-ge-LONG_NUMBER.rest.now ≡ drop 8 s = ap (λ (r : Bor Bytes). r.now) w.rest-is ∙ take_all _ (drop 8 s) (omega (arith, length-drop 8 s)) in
          (start _, rw rest-is (left-value 8 s w.if-s-gt-MOST_DIGITS.false (passed 8 s (omega (arith, w.if-s-ge-LONG_NUMBER.true)) (sym w.all_between.ensures ∙ w.if-all_between.true))), rw rest-is (omega (arith, length-drop 8 s, w.if-s-gt-MOST_DIGITS.false)))
      | then-s-ge-LONG_NUMBER+else-s-gt-MOST_DIGITS+else-all_between w ↦ (start _, rw w.rest-is, rw w.rest-is w.if-s-gt-MOST_DIGITS.false)
      | else-s-ge-LONG_NUMBER w ↦ (start _, rw w.rest-is, rw w.rest-is (omega (arith, w.if-s-ge-LONG_NUMBER.false)))
    ]

pub returns-then-d-gt9 : goal.returns-then-d-gt9
returns-then-d-gt9 c = (value-bad _ _ _ c.loop-b.invariant.0 c.loop-b-test.true (no_digit _ _ c.wrapping_sub_u8-d.ensures.value c.wrapping_sub_u8-d.type_inv c.if-d-gt9.true) ∙ c.loop-b.invariant.1, zero-le)

pub overflow_mul-v : goal.overflow_mul-v
overflow_mul-v c = omega (arith, bounded 17 _ _ _ c.loop-b.invariant.0 (omega arith))

pub overflow_add-v : goal.overflow_add-v
overflow_add-v c = omega (arith, bounded 17 _ _ _ c.loop-b.invariant.0 (omega arith))

pub loop-b-preserved : goal.loop-b-preserved
loop-b-preserved c =
    let b-is = digit _ _ c.wrapping_sub_u8-d.ensures.value c.if-d-gt9.false in
    (turn _ _ _ _ c.loop-b.invariant.0 c.loop-b-test.true (omega arith) (omega arith) (omega arith), c.loop-b.invariant.1, c.loop-b.invariant.2)

pub returns : goal.returns
returns c =
    let r = c.loop-b.invariant.0 in
    (value_read _ _ _ r c.loop-b-test.false (omega arith) ∙ c.loop-b.invariant.1, omega (arith, bounded 18 _ _ _ r (omega arith)))
