-- What the fields of a 16 add is what the form of its amount adds: after its type comes at most one amount, and no other field adds one. Assumes nothing.
use native.Mathlib.Omega.{arith}
use mathlib.Core.Path.{◌≡◌, refl, sym, ap, subst, ◌∙◌}
use mathlib.Core.Bool.{Bool, true, false, not, ◌||◌}
use mathlib.Core.List.{List, [], ◌∷◌, ◌++◌}
use lib.Dec.{T}
use borrow.Author.Tests.{eqb-false, ne_eqb}
use Rattle.rules.specs.Bytes.{Bytes}
use Rattle.rules.specs.Numbers.{Sum, zero_sum, ◌⊕◌}
use Rattle.rules.specs.Amounts.{amount_in, amount_adds}
use Rattle.rules.specs.TypeCodes.{Class, status, summary_only, summary_or_detail, non_monetary, unknown, type_class}
use Rattle.rules.specs.Lines.{detail, Record}
use Rattle.rules.specs.Grammar.{Kind, detail_type, amount, status_amount, reference, text, kind_number, same_kind, Judged, bad, good, detail_of, judged, fields_of}
use Rattle.rules.specs.Records.{Field, the}
use Rattle.rules.specs.Totals.{amount_of, sum_of}
use Rattle.rules.specs.Parts.{fields_in}
use Rattle.rules.proofs.Tests.{and_left, and_right}
use Rattle.laws.proofs.Lists.{all_both}
use Rattle.laws.proofs.SummarySums.{same_sum}
use Rattle.laws_amounts.proofs.KindsAsked.{bears_amount, is_type, quiet, AllQuiet, quiet-after}
use Rattle.laws_amounts.proofs.FieldsFollow.{Follow, fields-follow}
use Rattle.laws_amounts.proofs.ItemForms.{none_first, adds_none}

none_last : (a : Sum) → a ⊕ zero_sum ≡ a
none_last a = same_sum (a ⊕ zero_sum) a (omega arith) (omega arith)

-- ---- quiet fields

-- a field that bears no amount isn't the amount
not-amount : (s t : Bool) → T (not (s || t)) → s ≡ false
not-amount true t n = absurd n
not-amount false t n = refl

other-kind : (k : Kind) → T (not (bears_amount k)) → same_kind amount k ≡ false
other-kind k n =
    ne_eqb (kind_number amount) (kind_number k) (λ e.
    eqb-false (kind_number k) (kind_number amount) (not-amount (same_kind k amount) (same_kind k status_amount) n) (sym e))

-- these fields add nothing, and have no amount
record Nothing (fs : List Field) : Type 0 where
  adds : sum_of fs ≡ zero_sum
  given : (the amount fs).bytes ≡ []

-- a field without an amount in front changes nothing
module _ (f : Field) (fs : List Field) (n : T (not (bears_amount f.kind))) where
  same-adds : sum_of (f ∷ fs) ≡ sum_of fs
  unfolding sum_of
  same-adds = rw (adds_none f n) (none_first (sum_of fs))

  same-given : (the amount (f ∷ fs)).bytes ≡ (the amount fs).bytes
  unfolding the
  same-given = rw (other-kind f.kind n)

quiet-nothing : (fs : List Field) (ks : List Kind) → AllQuiet ks → Follow fs ks → Nothing fs
unfolding sum_of the
quiet-nothing [] ks q h = record { adds = refl; given = refl }
quiet-nothing (f ∷ fs) [] q h = absurd h
quiet-nothing (f ∷ fs) (k ∷ ks) q (e, (new, g, rest)) =
    let n : T (not (bears_amount f.kind)) =
    subst (λ (j : Kind). T (not (bears_amount j))) (sym e) (and_left (not (bears_amount k)) (not (is_type k)) q.0) in
    let after : AllQuiet new = quiet-after k f.bytes new g (and_right (not (bears_amount k)) (not (is_type k)) q.0) in
    let others = quiet-nothing fs (new ++ ks) (all_both (λ j. T (quiet j)) new ks after q.1) rest in
    record { adds = same-adds f fs n ∙ others.adds; given = same-given f fs n ∙ others.given }

-- ---- the amount, and the type before it

-- the fields add what the form of their first amount adds
abbrev Adds : List Field → Type 0
Adds fs = sum_of fs ≡ amount_adds (amount_in (the amount fs).bytes)

nothing-adds : (fs : List Field) → Nothing fs → Adds fs
unfolding amount_in
nothing-adds fs n = n.adds ∙ ap (λ (bs : Bytes). amount_adds (amount_in bs)) (sym n.given)

-- the amount first, and nothing after it
amount-first : (f : Field) (fs : List Field) → f.kind ≡ amount → Nothing fs → Adds (f ∷ fs)
unfolding sum_of the amount_of
amount-first f fs e n = rw (e, n.adds) (none_last (amount_adds (amount_in f.bytes)))

-- an amount is wanted first, then quiet fields
amount-adds : (fs : List Field) (ks : List Kind) → AllQuiet ks → Follow fs (amount ∷ ks) → Adds fs
unfolding sum_of the amount_in
amount-adds [] ks q h = refl
amount-adds (f ∷ fs) ks q (e, (new, g, rest)) =
    amount-first f fs e (quiet-nothing fs (new ++ ks) (all_both (λ j. T (quiet j)) new ks (quiet-after amount f.bytes new g tt) q) rest)

-- what comes after a type, before quiet fields
abbrev Says : Judged → Type 0
Says (bad n) = Unit {0}
Says (good new) = (fs : List Field) (ks : List Kind) → AllQuiet ks → Follow fs (new ++ ks) → Adds fs

type-says : (c : Class) → Says (detail_of c)
type-says status = tt
type-says summary_only = tt
type-says summary_or_detail = λ fs ks q h. amount-adds fs _ (tt, q) h
type-says non_monetary = λ fs ks q h. nothing-adds fs (quiet-nothing fs _ (tt, (tt, q)) h)
type-says unknown = tt

type-good : (bs : Bytes) (new : List Kind) → judged detail_type bs ≡ good new → Says (good new)
unfolding judged
type-good bs new e = subst Says e (type-says (type_class bs))

detail-adds : (fs : List Field) (ks : List Kind) → AllQuiet ks → Follow fs (detail_type ∷ ks) → Adds fs
unfolding sum_of the amount_in
detail-adds [] ks q h = refl
detail-adds (f ∷ fs) ks q (e, (new, g, rest)) =
    let n : T (not (bears_amount f.kind)) = rw e tt in
    same-adds f fs n ∙ type-good f.bytes new g fs ks q rest ∙ ap (λ (bs : Bytes). amount_adds (amount_in bs)) (sym (same-given f fs n))

-- a 16's fields add what its amount does
pub amount-adds-up : (r : Record) → sum_of (fields_in detail r) ≡ amount_adds (amount_in (the amount (fields_in detail r)).bytes)
unfolding fields_of
amount-adds-up r = detail-adds (fields_in detail r) (reference ∷ reference ∷ text ∷ []) (tt, (tt, (tt, tt))) (fields-follow detail r)
