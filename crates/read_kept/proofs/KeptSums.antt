-- The sum that is kept is the sum of the fields' amounts, up to the first that passes the largest. Assumes nothing.
use Prim.Native.Nat.{ℕ, ◌+◌, ◌≤◌, ◌<◌}
use native.Mathlib.Nat.{add-zero, zero-add, add_assoc}
use native.Mathlib.Omega.{arith}
use mathlib.Core.Path.{◌≡◌, refl, ap, sym, ◌∙◌}
use mathlib.Core.Bool.{Bool, true, false, cond, not}
use mathlib.Core.List.{List, [], ◌∷◌}
use lib.Dec.{leb}
use borrow.Author.Tests.{le-leb, lt-leb, leb-true, leb-false}
use Rattle.rules.specs.Bytes.{is_empty}
use Rattle.rules.specs.Numbers.{number, Sum, zero_sum, ◌⊕◌, magnitudes}
use Rattle.rules.specs.Amounts.{Amount, amount_in, amount_adds}
use Rattle.rules.specs.Limits.{most}
use Rattle.rules.specs.Outcome.{◌>>=◌, check}
use Rattle.rules.specs.Records.{Field}
use Rattle.rules.specs.Totals.{amount_of, sum_of, bounded_from}
use Rattle.rules.proofs.Tests.{Known, holds, fails, known}
use Rattle.base_quantities.specs.QuantityMeanings.{sum_meant}
use Rattle.read_wanted.specs.Wants.{Purpose, for_amount, same_purpose, purpose}
use Rattle.read_kept.specs.declared.Kept.{Kept}
use Rattle.std.specs.Prelude.{Option, Some, None}
use Rattle.std.specs.Option.{is_some}
use Rattle.base_quantities.specs.declared.Place.{Place}
use Rattle.read_kept.specs.KeepFields.{place, nothing_kept, add_to, keep_with, keep_field, keep_all}
use Rattle.read_kept.specs.KeptOfFields.{over_of}
use Rattle.read_kept.proofs.EachKind.{told}

-- the magnitudes so far
abbrev size : Kept → ℕ
size k = k.before.0 + magnitudes (sum_meant k.sum)

-- ---- one field: its amount d is added, or it passes the largest

data After (k : Kept) (d : Sum) (p : ℕ) (j : Kept) : Type 0 where
  added : j.before.0 ≡ k.before.0 → j.past ≡ None → sum_meant j.sum ≡ sum_meant k.sum ⊕ d → size k + magnitudes d ≤ most → After k d p j
  passed : j.past ≡ Some (place p) → most < size k + magnitudes d → After k d p j

module _ (u : Purpose) (k : Kept) (p : ℕ) (g : Bool) (a : Amount) (n : ℕ) where
  amount-after : k.past ≡ None → same_purpose for_amount u ≡ true → Known (leb (k.before.0 + magnitudes (sum_meant k.sum ⊕ amount_adds a)) most)
      → After k (amount_adds a) p (keep_with u k p g a n)
  unfolding keep_with add_to
  amount-after o e (holds l) =
      let h = leb-true (k.before.0 + magnitudes (sum_meant k.sum ⊕ amount_adds a)) most l in
      added refl (rw (e, o, l)) (rw (e, o, l)) (omega arith)
  amount-after o e (fails l) =
      let h = leb-false (k.before.0 + magnitudes (sum_meant k.sum ⊕ amount_adds a)) most l in
      passed (rw (e, o, l)) (omega arith)

  other_after : k.past ≡ None → size k ≤ most → same_purpose for_amount u ≡ false → After k zero_sum p (keep_with u k p g a n)
  unfolding keep_with
  other_after o h e = added refl (rw e o) (rw e (simp add-zero)) (omega arith)

  keep-after : k.past ≡ None → size k ≤ most → Known (same_purpose for_amount u)
      → After k (cond (same_purpose for_amount u) (amount_adds a) zero_sum) p (keep_with u k p g a n)
  keep-after o h (holds e) = rw e (amount-after o e (known (leb (k.before.0 + magnitudes (sum_meant k.sum ⊕ amount_adds a)) most)))
  keep-after o h (fails e) = rw e (other_after o h e)

  keep-over : (q : Place) → k.past ≡ Some q → Known (same_purpose for_amount u) → (keep_with u k p g a n).past ≡ Some q
  unfolding keep_with add_to
  keep-over q o (holds e) = rw (e, o)
  keep-over q o (fails e) = rw e o

field-after : (k : Kept) (f : Field) → k.past ≡ None → size k ≤ most → After k (amount_of f) f.place (keep_field k f)
unfolding amount_of keep_field
field-after k f o h =
    rw (told f.kind).0
    (keep-after (purpose f.kind) k f.place (not (is_empty f.bytes)) (amount_in f.bytes) (number f.bytes) o h (known (same_purpose for_amount (purpose f.kind))))

-- once past, it stays so
over-stays : (fs : List Field) (k : Kept) (q : Place) → k.past ≡ Some q → (keep_all k fs).past ≡ Some q
unfolding keep_all keep_field
over-stays [] k q o = o
over-stays (f ∷ fs) k q o =
    let u = purpose f.kind in
    over-stays fs (keep_field k f) q
    (keep-over u k f.place (not (is_empty f.bytes)) (amount_in f.bytes) (number f.bytes) q o (known (same_purpose for_amount u)))

-- ---- 10

abbrev Bounded : List Field → Kept → Type 0
Bounded fs k = k.past ≡ None → size k ≤ most → bounded_from (size k) fs ≡ over_of (keep_all k fs)

bounded-step : (k j : Kept) (d : Sum) (p : ℕ) (fs : List Field) → After k d p j → Bounded fs j
    → (check (leb (size k + magnitudes d) most) 10 p >>= λ _. bounded_from (size k + magnitudes d) fs) ≡ over_of (keep_all j fs)
bounded-step k j d p fs (added b o s h) ih =
    let m : magnitudes (sum_meant j.sum) ≡ magnitudes (sum_meant k.sum ⊕ d) = ap magnitudes s in
    let q : size k + magnitudes d ≡ size j = omega arith in
    rw (le-leb (size k + magnitudes d) most h, q) (ih o (omega arith))
bounded-step k j d p fs (passed o h) ih = rw (lt-leb (size k + magnitudes d) most h, over-stays fs j (place p) o)

bounded-by : (fs : List Field) (k : Kept) → Bounded fs k
unfolding bounded_from keep_all
bounded-by [] k o h = rw o
bounded-by (f ∷ fs) k o h = bounded-step k (keep_field k f) (amount_of f) f.place fs (field-after k f o h) (bounded-by fs (keep_field k f))

pub bounded : (m : ℕ) (fs : List Field) → m ≤ most → bounded_from m fs ≡ over_of (keep_all (nothing_kept m) fs)
bounded m fs h =
    let z : m ≡ size (nothing_kept m) = omega arith in
    ap (λ (n : ℕ). bounded_from n fs) z ∙ bounded-by fs (nothing_kept m) refl (omega arith)

-- ---- the sum, where none passes

abbrev Sums : List Field → Kept → Type 0
Sums fs k = k.past ≡ None → size k ≤ most → (keep_all k fs).past ≡ None → sum_meant (keep_all k fs).sum ≡ sum_meant k.sum ⊕ sum_of fs

sum-assoc : (a b c : Sum) → (a ⊕ b) ⊕ c ≡ a ⊕ (b ⊕ c)
sum-assoc a b c = simp add_assoc

not-both : (t : Option Place) (q : Place) → t ≡ Some q → t ≡ None → ⊥
not-both t q h e = let z : is_some (Some q) ≡ is_some {T = Place} None = ap is_some (sym h ∙ e) in let y : ◌≡◌ {A = ℕ} 0 1 = cc in omega arith

sums-step : (k j : Kept) (d : Sum) (p : ℕ) (fs : List Field) → After k d p j → Sums fs j → (keep_all j fs).past ≡ None
    → sum_meant (keep_all j fs).sum ≡ sum_meant k.sum ⊕ (d ⊕ sum_of fs)
sums-step k j d p fs (added b o s h) ih e =
    let m : magnitudes (sum_meant j.sum) ≡ magnitudes (sum_meant k.sum ⊕ d) = ap magnitudes s in
    ih o (omega arith) e ∙ ap (λ (x : Sum). x ⊕ sum_of fs) s ∙ sum-assoc (sum_meant k.sum) d (sum_of fs)
sums-step k j d p fs (passed o h) ih e = absurd (not-both (keep_all j fs).past (place p) (over-stays fs j (place p) o) e)

sums_by : (fs : List Field) (k : Kept) → Sums fs k
unfolding sum_of keep_all
sums_by [] k o h e = simp add-zero
sums_by (f ∷ fs) k o h e = sums-step k (keep_field k f) (amount_of f) f.place fs (field-after k f o h) (sums_by fs (keep_field k f)) e

pub sums : (m : ℕ) (fs : List Field) → m ≤ most → (keep_all (nothing_kept m) fs).past ≡ None → sum_meant (keep_all (nothing_kept m) fs).sum ≡ sum_of fs
sums m fs h e = sums_by fs (nothing_kept m) refl (omega arith) e ∙ simp zero-add
