-- Totals as they are written, read back: the same number, and a minus exactly where it is below 0, so never "-0". Assumes nothing.
use Rattle.std.proofs.Common.{◌≡◌, ◌+◌, ◌-◌, ◌<◌, ◌≤◌, Bool, true, false, cond, ltb, leb, ◌∷◌, length, sym, refl, ◌∙◌, ⊎_elim, arith, ltb-false, ltb-true, le-ltb, lt-ltb, eq-eqb, eqb-true, leb-true}
use Rattle.rules.specs.Bytes.{minus, starts_with}
use Rattle.rules.specs.Numbers.{number, decimal, without_sign, Sum, equals, within_most, total_bytes}
use Rattle.rules.specs.Amounts.{Amount, unsigned, with_minus, amount_in, amount_adds}
use Rattle.rules.specs.Limits.{most}
use Rattle.rules.specs.Grammar.{is_signed}
use Rattle.base_digits.proofs.DigitTests.{below-or-from, and_left, and_right}
use Rattle.base_digits.proofs.DigitStrings.{decimal-digits, decimal-fits, decimal-short, decimal-some, number-decimal}
use Rattle.base_digits.proofs.SignLaws.{no_minus, no_sign, unsigned-digits}

-- ---- the two shapes of a total

module _ (a : Sum) where
  -- below 0 a minus, then the digits
  pub total-below-zero : a.pluses < a.minuses → total_bytes a ≡ minus ∷ decimal (a.minuses - a.pluses)
  unfolding total_bytes
  total-below-zero h = rw (lt-ltb a.pluses a.minuses h)

  -- else the digits alone
  pub total-from-zero : a.minuses ≤ a.pluses → total_bytes a ≡ decimal (a.pluses - a.minuses)
  unfolding total_bytes
  total-from-zero h = rw (le-ltb a.pluses a.minuses h)

-- ---- a total read back

-- below 0 with a minus, else unsigned: how far the pluses and minuses are apart
abbrev pub as_read : Sum → Amount
as_read a = cond (ltb a.pluses a.minuses) (with_minus (a.minuses - a.pluses)) (unsigned (a.pluses - a.minuses))

-- so it is read
pub total-read : (a : Sum) → amount_in (total_bytes a) ≡ as_read a
unfolding amount_in
total-read a =
    ⊎_elim
    (λ h. rw (total-below-zero a h, lt-ltb a.pluses a.minuses h, number-decimal (a.minuses - a.pluses)))
    (λ h.
    let n = a.pluses - a.minuses in
    rw (total-from-zero a h, le-ltb a.pluses a.minuses h, unsigned-digits (decimal n) (decimal-some n) (decimal-digits n), number-decimal n))
    (below-or-from a.pluses a.minuses)

-- as a number it equals the sum
pub total-equals : (a : Sum) → equals (amount_adds (amount_in (total_bytes a))) a ≡ true
total-equals a = rw (total-read a) (go (ltb a.pluses a.minuses) refl)
  where
    go : (b : Bool) → ltb a.pluses a.minuses ≡ b → equals (amount_adds (cond b (with_minus (a.minuses - a.pluses)) (unsigned (a.pluses - a.minuses)))) a ≡ true
    go true e = eq-eqb (0 + a.minuses) (a.pluses + (a.minuses - a.pluses)) (omega (arith, ltb-true))
    go false e = eq-eqb (a.pluses - a.minuses + a.minuses) (a.pluses + 0) (omega (arith, ltb-false))

-- it begins with a minus exactly where the pluses are below the minuses
pub total-minus : (a : Sum) → starts_with minus (total_bytes a) ≡ ltb a.pluses a.minuses
unfolding starts_with
total-minus a =
    ⊎_elim
    (λ h. rw (total-below-zero a h, lt-ltb a.pluses a.minuses h))
    (λ h. rw (total-from-zero a h, le-ltb a.pluses a.minuses h) (no_minus (decimal (a.pluses - a.minuses)) (decimal-digits (a.pluses - a.minuses))))
    (below-or-from a.pluses a.minuses)

-- so it is never "-0"
pub never-minus-zero : (a : Sum) → starts_with minus (total_bytes a) ≡ true → 0 < number (without_sign (total_bytes a))
unfolding without_sign
never-minus-zero a e =
    let below = ltb-true a.pluses a.minuses (sym (total-minus a) ∙ e) in
    rw (total-below-zero a below, number-decimal (a.minuses - a.pluses)) (omega arith)

-- equal sums have the same bytes
pub total-same : (a b : Sum) → equals a b ≡ true → total_bytes a ≡ total_bytes b
total-same a b e =
    let same = eqb-true (a.pluses + b.minuses) (b.pluses + a.minuses) e in
    ⊎_elim
    (λ h.
    let g : b.pluses < b.minuses = omega arith in
    let n : a.minuses - a.pluses ≡ b.minuses - b.pluses = omega arith in
    rw (total-below-zero a h, total-below-zero b g, n))
    (λ h.
    let g : b.minuses ≤ b.pluses = omega arith in
    let n : a.pluses - a.minuses ≡ b.pluses - b.minuses = omega arith in
    rw (total-from-zero a h, total-from-zero b g, n))
    (below-or-from a.pluses a.minuses)

-- not beyond the largest either way, it is good as a total's field
pub total-signed : (a : Sum) → within_most a ≡ true → is_signed (total_bytes a) ≡ true
unfolding is_signed without_sign
total-signed a e =
    let low = leb-true a.pluses (most + a.minuses) (and_left (leb a.pluses (most + a.minuses)) (leb a.minuses (most + a.pluses)) e) in
    let high = leb-true a.minuses (most + a.pluses) (and_right (leb a.pluses (most + a.minuses)) (leb a.minuses (most + a.pluses)) e) in
    ⊎_elim
    (λ h. rw (total-below-zero a h) (decimal-fits 18 (a.minuses - a.pluses) (omega arith) (omega arith)))
    (λ h.
    rw (total-from-zero a h, no_sign (decimal (a.pluses - a.minuses)) (decimal-digits (a.pluses - a.minuses)))
    (decimal-fits 18 (a.pluses - a.minuses) (omega arith) (omega arith)))
    (below-or-from a.pluses a.minuses)

-- a total of 64 bits has at most 21 bytes
pub total-short : (a : Sum) → a.pluses < 18_446_744_073_709_551_616 → a.minuses < 18_446_744_073_709_551_616 → length (total_bytes a) ≤ 21
total-short a h g =
    ⊎_elim
    (λ l. rw (total-below-zero a l) (omega (arith, decimal-short (a.minuses - a.pluses) (omega arith))))
    (λ l. rw (total-from-zero a l) (omega (arith, decimal-short (a.pluses - a.minuses) (omega arith))))
    (below-or-from a.pluses a.minuses)
