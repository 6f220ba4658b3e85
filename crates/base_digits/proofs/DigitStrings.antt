-- Digit strings of any length: a number's digits, the number that digits stand for, and that each gives back the other. Assumes nothing.
use Rattle.std.proofs.Common.{◌≡◌, ℕ, zero, suc, ◌+◌, ◌-◌, ◌*◌, ◌/◌, ◌%◌, ◌^◌, ◌<◌, ◌≤◌, Bool, true, false, ◌&&◌, ltb, [], ◌∷◌, ◌++◌, length, get_or, replicate, sym, refl, ap, ◌∙◌, ⊎_elim, append_assoc, append-nil, le_refl, lt_of_lt_of_le, mul-le-mul_right, mul_assoc, mul_comm, pow-suc, mul-one, arith, length-append, ltb-false, le-ltb, lt-ltb}
use native.Mathlib.Nat.{pow-zero, one-le-pow}
use mathlib.Core.Bool.{and_assoc}
use lib.ListN.{get_or-append}
use Rattle.rules.specs.Bytes.{Bytes, all}
use Rattle.rules.specs.Numbers.{is_digit, digits, number_from, number, decimal_within, decimal}
use Rattle.base_digits.proofs.DigitTests.{below-or-from, and_left, and_right, within, at_least, at_most}

-- ---- a number's digits, by tenths

-- more steps than enough change nothing
steps-enough : (k l : ℕ) (b : Bool) (n : ℕ) → ltb n 10 ≡ b → n ≤ k → n ≤ l → decimal_within k b n ≡ decimal_within l b n
unfolding decimal_within
steps-enough zero zero b n e h g = refl
steps-enough zero (suc l) true n e h g = refl
steps-enough (suc k) zero true n e h g = refl
steps-enough (suc k) (suc l) true n e h g = refl
steps-enough zero (suc l) false n e h g = absurd (omega (arith, ltb-false))
steps-enough (suc k) zero false n e h g = absurd (omega (arith, ltb-false))
steps-enough (suc k) (suc l) false n e h g =
    ap (λ (bs : Bytes). bs ++ ((48 + n % 10) ∷ []))
    (steps-enough k l (ltb (n / 10) 10) (n / 10) refl (omega (arith, ltb-false)) (omega (arith, ltb-false)))

-- a number below 10 is one digit
pub decimal-small : (n : ℕ) → n < 10 → decimal n ≡ (48 + n) ∷ []
unfolding decimal decimal_within
decimal-small zero h = refl
decimal-small (suc m) h = rw (lt-ltb (suc m) 10 h)

-- any other is the digits of its tenth, then its last
pub decimal_step : (n : ℕ) → 10 ≤ n → decimal n ≡ decimal (n / 10) ++ ((48 + n % 10) ∷ [])
unfolding decimal decimal_within
decimal_step zero h = absurd (omega arith)
decimal_step (suc m) h =
    rw (le-ltb (suc m) 10 h)
    (ap (λ (bs : Bytes). bs ++ ((48 + suc m % 10) ∷ []))
    (steps-enough m (suc m / 10) (ltb (suc m / 10) 10) (suc m / 10) refl (omega arith) (omega arith)))

-- what holds below 10, and of any other number where it holds of its tenth, holds of all
module _ {ℓ} (P : ℕ → Type ℓ) (small : (n : ℕ) → n < 10 → P n) (step : (n : ℕ) → 10 ≤ n → P (n / 10) → P n) where
  up_to : (k n : ℕ) → n ≤ k → P n
  up_to zero n h = small n (omega arith)
  up_to (suc k) n h = ⊎_elim (small n) (λ g. step n g (up_to k (n / 10) (omega arith))) (below-or-from n 10)

  pub by-tenths : (n : ℕ) → P n
  by-tenths n = up_to n n (le_refl n)

-- ---- the number that digits stand for

-- digits after others go on from the number of those
pub number_append : (n : ℕ) (xs ys : Bytes) → number_from n (xs ++ ys) ≡ number_from (number_from n xs) ys
unfolding number_from
number_append n [] ys = refl
number_append n (x ∷ xs) ys = number_append (n * 10 + (x - 48)) xs ys

-- one digit more at the end: ten times the number, and the digit
pub number-snoc : (xs : Bytes) (b : ℕ) → number (xs ++ (b ∷ [])) ≡ number xs * 10 + (b - 48)
unfolding number_from
number-snoc xs b = number_append 0 xs (b ∷ [])

-- a number's digits stand for it
pub number-decimal : (n : ℕ) → number (decimal n) ≡ n
unfolding number_from
number-decimal =
    by-tenths (λ n. number (decimal n) ≡ n)
    (λ n h. rw (decimal-small n h) (omega arith))
    (λ n h ih. rw (decimal_step n h, number-snoc, ih) (omega arith))

-- leading zeros count nothing
pub number-zeros : (k : ℕ) (xs : Bytes) → number (replicate k 48 ++ xs) ≡ number xs
unfolding number_from
number-zeros zero xs = refl
number-zeros (suc k) xs = number-zeros k xs

-- different numbers have different digits
pub decimal_injective : (m n : ℕ) → decimal m ≡ decimal n → m ≡ n
decimal_injective m n e = sym (number-decimal m) ∙ ap number e ∙ number-decimal n

-- ---- all are digits

-- a test holds of two lists together where it holds of each
pub all_append : (test : ℕ → Bool) (xs ys : Bytes) → all test (xs ++ ys) ≡ (all test xs && all test ys)
unfolding all
all_append test [] ys = refl
all_append test (x ∷ xs) ys = rw (all_append test xs ys) (sym (and_assoc (test x) (all test xs) (all test ys)))

-- of some digits the first is one, and those after it are
module _ (x : ℕ) (xs : Bytes) (e : all is_digit (x ∷ xs) ≡ true) where
  first-is : is_digit x ≡ true
  unfolding all
  first-is = and_left (is_digit x) (all is_digit xs) e

  pub first-low : 48 ≤ x
  first-low = at_least 48 57 x first-is

  pub first-high : x ≤ 57
  first-high = at_most 48 57 x first-is

  pub after-are : all is_digit xs ≡ true
  unfolding all
  after-are = and_right (is_digit x) (all is_digit xs) e

-- a number below 10 as a digit
digit-of : (n : ℕ) → n < 10 → all is_digit ((48 + n) ∷ []) ≡ true
unfolding all
digit-of n h = rw (within 48 57 (48 + n) (omega arith) (omega arith))

-- a number's digits are digits
pub decimal-digits : (n : ℕ) → all is_digit (decimal n) ≡ true
decimal-digits =
    by-tenths (λ n. all is_digit (decimal n) ≡ true)
    (λ n h. rw (decimal-small n h) (digit-of n h))
    (λ n h ih. rw (decimal_step n h, all_append, ih) (digit-of (n % 10) (omega arith)))

-- ---- how many digits, and the first of them

-- at least one
pub decimal-some : (n : ℕ) → 1 ≤ length (decimal n)
decimal-some =
    by-tenths (λ n. 1 ≤ length (decimal n))
    (λ n h. rw (decimal-small n h) (omega arith))
    (λ n h ih. rw (decimal_step n h, length-append) (omega arith))

-- one digit more than the tenth has
pub decimal-longer : (n : ℕ) → 10 ≤ n → length (decimal n) ≡ length (decimal (n / 10)) + 1
decimal-longer n h = rw (decimal_step n h, length-append)

-- a number below 10^k has at most k digits (0 has one)
pub decimal-at-most : (k n : ℕ) → 1 ≤ k → n < 10 ^ k → length (decimal n) ≤ k
decimal-at-most zero n one h = absurd (omega arith)
decimal-at-most (suc zero) n one h = rw (decimal-small n h) (omega arith)
decimal-at-most (suc (suc k)) n one h =
    ⊎_elim
    (λ g. rw (decimal-small n g) (omega arith))
    (λ g.
    let p = rw (pow-suc 10 (suc k)) at h in
    omega (arith, decimal-longer n g, decimal-at-most (suc k) (n / 10) (omega arith) (omega arith)))
    (below-or-from n 10)

-- a number of 64 bits has at most 20
pub decimal-short : (n : ℕ) → n < 18_446_744_073_709_551_616 → length (decimal n) ≤ 20
decimal-short n h = decimal-at-most 20 n (omega arith) (omega arith)

-- a number from 10^k on has at least k + 1
pub decimal-at-least : (k n : ℕ) → 10 ^ k ≤ n → k + 1 ≤ length (decimal n)
decimal-at-least zero n h = decimal-some n
decimal-at-least (suc k) n h =
    let p = rw (pow-suc 10 k) at h in
    let q = one-le-pow k 10 (omega arith) in
    omega (arith, decimal-longer n (omega arith), decimal-at-least k (n / 10) (omega arith))

-- a number below 10^k is 1 to k digits, as a field wants them
pub decimal-fits : (k n : ℕ) → 1 ≤ k → n < 10 ^ k → digits 1 k (decimal n) ≡ true
unfolding digits
decimal-fits k n one h =
    rw (within 1 k (length (decimal n)) (decimal-some n) (decimal-at-most k n one h)) (decimal-digits n)

-- the first digit of a number other than 0 is no zero
pub decimal-first : (n : ℕ) → 0 < n → 48 < get_or (decimal n) 0 0
decimal-first =
    by-tenths (λ n. 0 < n → 48 < get_or (decimal n) 0 0)
    (λ n h p. rw (decimal-small n h) (omega arith))
    (λ n h ih p.
    rw (decimal_step n h, get_or-append (decimal (n / 10)) ((48 + n % 10) ∷ []) 0 0 (decimal-some (n / 10))) (ih (omega arith)))

-- no leading zero, but for the number 0, which is "0"
pub decimal-no-leading-zero : (n : ℕ) → get_or (decimal n) 0 0 ≡ 48 → (n ≡ 0) × (decimal n ≡ 48 ∷ [])
decimal-no-leading-zero zero e = (refl, decimal-small 0 (omega arith))
decimal-no-leading-zero (suc n) e = absurd (omega (arith, decimal-first (suc n) (omega arith)))

-- ---- how large the number is

-- after those that stand for n, the number of k digits is below (n + 1) * 10^k
below_power : (n : ℕ) (xs : Bytes) → all is_digit xs ≡ true → number_from n xs < (n + 1) * 10 ^ length xs
unfolding number_from
below_power n [] e = rw (pow-zero 10, mul-one (n + 1)) (omega arith)
below_power n (x ∷ xs) e =
    let up : n * 10 + (x - 48) + 1 ≤ (n + 1) * 10 = omega (arith, first-high x xs e) in
    rw (pow-suc 10 (length xs), mul_comm (10 ^ length xs) 10, ← mul_assoc (n + 1) 10 (10 ^ length xs))
    (lt_of_lt_of_le (below_power (n * 10 + (x - 48)) xs (after-are x xs e)) (mul-le-mul_right (10 ^ length xs) up))

-- the number of k digits is below 10^k
pub number-below : (xs : Bytes) → all is_digit xs ≡ true → number xs < 10 ^ length xs
number-below xs e = omega (arith, below_power 0 xs e)

-- ---- the digits of the number that digits stand for

-- after those of a number other than 0, digits are the whole number's
decimal-from : (n : ℕ) (xs : Bytes) → 0 < n → all is_digit xs ≡ true → decimal (number_from n xs) ≡ decimal n ++ xs
unfolding number_from
decimal-from n [] h e = sym (append-nil (decimal n))
decimal-from n (x ∷ xs) h e =
    let lo = first-low x xs e in
    let hi = first-high x xs e in
    let tenth : (n * 10 + (x - 48)) / 10 ≡ n = omega arith in
    let last : 48 + (n * 10 + (x - 48)) % 10 ≡ x = omega arith in
    decimal-from (n * 10 + (x - 48)) xs (omega arith) (after-are x xs e)
    ∙ rw (decimal_step (n * 10 + (x - 48)) (omega arith), tenth, last) (append_assoc (decimal n) (x ∷ []) xs)

-- digits that start with no zero are their number's
pub decimal-number : (x : ℕ) (xs : Bytes) → all is_digit (x ∷ xs) ≡ true → 48 < x → decimal (number (x ∷ xs)) ≡ x ∷ xs
unfolding number_from
decimal-number x xs e h =
    let hi = first-high x xs e in
    let first : 0 * 10 + (x - 48) ≡ x - 48 = omega arith in
    let digit : 48 + (x - 48) ≡ x = omega arith in
    rw first
    (decimal-from (x - 48) xs (omega arith) (after-are x xs e) ∙ rw (decimal-small (x - 48) (omega arith), digit))
