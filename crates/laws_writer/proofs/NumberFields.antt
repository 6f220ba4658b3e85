-- Written numbers, read back: amounts, totals and counts say the number given. Assumes nothing.
use mathlib.Core.Path.{◌≡◌, refl, sym, ap, ◌∙◌}
use mathlib.Core.Bool.{Bool, true, false, ◌||◌, false≢true}
use mathlib.Core.List.{[], ◌∷◌}
use mathlib.Core.Logic.{⊎_elim}
use mathlib.Core.Option.{Option, none, some}
use Prim.Native.Nat.{ℕ, suc, ◌-◌, ◌≤◌}
use native.Mathlib.Omega.{arith}
use lib.Dec.{ltb}
use lib.ListN.{length}
use borrow.Author.Tests.{lt-ltb, le-ltb, ltb-true, ltb-false}
use Rattle.rules.specs.Bytes.{Bytes, is_empty}
use Rattle.rules.specs.Numbers.{Signed, Sum, as_sum, as_integer, decimal, total_bytes}
use Rattle.rules.specs.Amounts.{amount_in, amount_adds}
use Rattle.rules.specs.Grammar.{Kind, same_kind, amount, status_amount, total, item_count, count, records}
use Rattle.rules.specs.Writer.{amount_bytes, item_count_bytes, sum_given}
use Rattle.rules.proofs.Tests.{Known, holds, fails, known}
use Rattle.base_digits.proofs.DigitTests.{below-or-from}
use Rattle.base_digits.proofs.DigitStrings.{decimal-some, number-decimal}
use Rattle.base_digits.proofs.TotalStrings.{as_read, total-below-zero, total-from-zero, total-read}
use Rattle.laws_writer.specs.SessionWords.{units, number, filled, said, amount_given, items_given}
use Rattle.laws_writer.specs.SessionWords as words

-- ---- a written number is never empty

pub not-empty : (bs : Bytes) → 1 ≤ length bs → is_empty bs ≡ false
unfolding is_empty
not-empty [] h = absurd (omega arith)
not-empty (b ∷ bs) h = refl

pub decimal-filled : (n : ℕ) → is_empty (decimal n) ≡ false
decimal-filled n = not-empty (decimal n) (decimal-some n)

pub total-filled : (a : Sum) → is_empty (total_bytes a) ≡ false
unfolding is_empty
total-filled a =
    ⊎_elim (λ h. rw (total-below-zero a h)) (λ h. rw (total-from-zero a h) (decimal-filled (a.pluses - a.minuses))) (below-or-from a.pluses a.minuses)

-- ---- its value

module _ (m : ℕ) where
  below-zero : Known (ltb 0 m) → amount_adds (as_read (record { pluses = 0; minuses = m })) ≡ record { pluses = 0; minuses = m }
  below-zero (holds e) = let z : m - 0 ≡ m = omega arith in rw (e, z)
  below-zero (fails e) = let y : m ≡ 0 = omega (arith, ltb-false) in rw y

  above_zero : amount_adds (as_read (record { pluses = m; minuses = 0 })) ≡ record { pluses = m; minuses = 0 }
  above_zero = let z : m - 0 ≡ m = omega arith in rw (le-ltb m 0 (omega arith), z)

by_sign : (negative : Bool) (m : ℕ) → amount_adds (as_read (as_sum (record { negative = negative; magnitude = m }))) ≡ as_sum (record { negative = negative; magnitude = m })
by_sign true m = below-zero m (known (ltb 0 m))
by_sign false m = above_zero m

-- an amount reads as the number given, none as 0
pub amount-reads : (a : Option Signed) → amount_adds (amount_in (amount_bytes a)) ≡ sum_given a
unfolding amount_in
amount-reads none = refl
amount-reads (some a) = ap amount_adds (total-read (as_sum a)) ∙ by_sign a.negative a.magnitude

-- a total reads as its sum's integer
integer-step : (a : Sum) → Known (ltb a.pluses a.minuses) → as_integer (amount_adds (as_read a)) ≡ as_integer a
integer-step a (holds e) =
    let d = a.minuses - a.pluses in
    let h = ltb-true a.pluses a.minuses e in
    let m : d - 1 ≡ a.minuses - suc a.pluses = omega arith in
    rw (e, lt-ltb 0 d (omega arith), m)
integer-step a (fails e) =
    let d = a.pluses - a.minuses in
    let h = ltb-false a.pluses a.minuses e in
    let m : d - 0 ≡ a.pluses - a.minuses = omega arith in
    rw (e, le-ltb d 0 (omega arith), m)

-- ---- what its field says

abbrev is_sum : Kind → Bool
is_sum k = same_kind k amount || (same_kind k status_amount || same_kind k total)

abbrev is_count : Kind → Bool
is_count k = same_kind k item_count || (same_kind k count || same_kind k records)

module _ (k : Kind) (p : ℕ) where
  pub amount-said : (a : Option Signed) → is_sum k ≡ true → said (record { kind = k; place = p; bytes = amount_bytes a }) ≡ amount_given a
  unfolding said filled is_empty
  amount-said none e = refl
  amount-said (some a) e = rw (total-filled (as_sum a), e, amount-reads (some a))

  pub total-said : (a : Sum) → is_sum k ≡ true → said (record { kind = k; place = p; bytes = total_bytes a }) ≡ units (as_integer a)
  unfolding said filled
  total-said a e = rw (total-filled a, e, total-read a, integer-step a (known (ltb a.pluses a.minuses)))

  pub number-said : (n : ℕ) → is_sum k ≡ false → is_count k ≡ true → said (record { kind = k; place = p; bytes = decimal n }) ≡ number n
  unfolding said filled
  number-said n s e = rw (decimal-filled n, s, e, number-decimal n)

  pub count-said : (n : Option ℕ) → is_sum k ≡ false → is_count k ≡ true → said (record { kind = k; place = p; bytes = item_count_bytes n }) ≡ items_given n
  unfolding said is_empty
  count-said none s e = refl
  count-said (some n) s e = number-said n s e

  pub nothing_said : (f : Bytes) → is_empty f ≡ true → said (record { kind = k; place = p; bytes = f }) ≡ words.nothing
  unfolding said
  nothing_said f e = rw e

-- none was given where nothing is written
pub no-amount : (a : Option Signed) → is_empty (amount_bytes a) ≡ true → a ≡ none
no-amount none h = refl
no-amount (some a) h = absurd (false≢true (sym (total-filled (as_sum a)) ∙ h))

pub no-count : (n : Option ℕ) → is_empty (item_count_bytes n) ≡ true → n ≡ none
no-count none h = refl
no-count (some n) h = absurd (false≢true (sym (decimal-filled n) ∙ h))
