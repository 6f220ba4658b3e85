-- What the fields of a 03 add is what the forms of its items' amounts add: right after a type that isn't empty comes its amount, and no other field adds one. Assumes nothing.
use Prim.Native.Nat.{ℕ}
use native.Mathlib.Omega.{arith}
use mathlib.Core.Path.{◌≡◌, refl, sym, ap, subst, ◌∙◌}
use mathlib.Core.Bool.{Bool, true, false, not, ◌||◌}
use mathlib.Core.List.{List, [], ◌∷◌, ◌++◌}
use lib.Dec.{T}
use Rattle.rules.specs.Bytes.{Bytes, is_empty, all}
use Rattle.rules.specs.Numbers.{digits, Sum, zero_sum, ◌⊕◌}
use Rattle.rules.specs.Amounts.{amount_in, amount_adds}
use Rattle.rules.specs.TypeCodes.{Class, status, summary_only, summary_or_detail, non_monetary, unknown, type_class}
use Rattle.rules.specs.Lines.{account_header, Record}
use Rattle.rules.specs.Grammar.{Kind, first_type, further_type, status_amount, amount, Judged, bad, good, item_of, judged, same_kind, fields_of}
use Rattle.rules.specs.Records.{Field}
use Rattle.rules.specs.Totals.{amount_of, sum_of}
use Rattle.rules.specs.Parts.{fields_in}
use Rattle.rules.specs.Items.{begins_item, first_bytes, item_before, items_in}
use Rattle.rules.proofs.Tests.{not-false, and_left, and_right}
use Rattle.laws.specs.LawWords.{All, sum_up}
use Rattle.laws.proofs.Lists.{all_both, all_from}
use Rattle.laws.proofs.SummarySums.{same_sum}
use Rattle.laws_amounts.proofs.KindsAsked.{bears_amount, is_type, quiet, quiet-after}
use Rattle.laws_amounts.proofs.FieldsFollow.{Follow, fields-follow}

-- ---- sums

pub none_first : (a : Sum) → zero_sum ⊕ a ≡ a
none_first a = same_sum (zero_sum ⊕ a) a (omega arith) (omega arith)

-- a field that bears no amount adds nothing
pub adds_none : (f : Field) → T (not (bears_amount f.kind)) → amount_of f ≡ zero_sum
unfolding amount_of
adds_none f n = rw (not-false (bears_amount f.kind) n)

-- ---- what may be wanted in a 03

-- no amount: a quiet field, or a type
data Calm : Kind → Type 0 where
  still : {k : Kind} → T (quiet k) → Calm k
  first : Calm first_type
  further : Calm further_type

-- an amount
data Bears : Kind → Type 0 where
  plain : Bears amount
  of_status : Bears status_amount

-- an amount is due, before kinds that are none; or it isn't
abbrev Ready : Bool → List Kind → Type 0
Ready false ks = All Calm ks
Ready true [] = ⊥
Ready true (k ∷ ks) = Bears k × All Calm ks

ready-more : (due : Bool) (new ks : List Kind) → Ready due new → All Calm ks → Ready due (new ++ ks)
ready-more false new ks r c = all_both Calm new ks r c
ready-more true [] ks r c = absurd r
ready-more true (k ∷ new) ks r c = (r.0, all_both Calm new ks r.1 c)

-- a field after which an amount is due exactly where it begins an item
record Left (f : Field) (new : List Kind) : Type 0 where
  due : Bool
  begins : begins_item f ≡ due
  ready : Ready due new

abbrev Says : Field → Judged → Type 0
Says f (bad n) = Unit {0}
Says f (good new) = Left f new

-- ---- each kind that is no amount

abbrev field : Kind → ℕ → Bytes → Field
field k p bs = record { kind = k; place = p; bytes = bs }

item-says : (f : Field) → begins_item f ≡ true → (c : Class) → Says f (item_of c)
item-says f b status = record { due = true; begins = b; ready = (of_status, (still tt, (still tt, (further, tt)))) }
item-says f b summary_only = record { due = true; begins = b; ready = (plain, (still tt, (still tt, (further, tt)))) }
item-says f b summary_or_detail = record { due = true; begins = b; ready = (plain, (still tt, (still tt, (further, tt)))) }
item-says f b non_monetary = tt
item-says f b unknown = tt

first_says : (p : ℕ) (bs : Bytes) → Says (field first_type p bs) (judged first_type bs)
unfolding judged is_empty
first_says p [] = record { due = false; begins = refl; ready = (still tt, (still tt, (still tt, tt))) }
first_says p (b ∷ bs) = item-says (field first_type p (b ∷ bs)) refl (type_class (b ∷ bs))

further-says : (p : ℕ) (bs : Bytes) → Says (field further_type p bs) (judged further_type bs)
unfolding judged is_empty type_class digits all
further-says p [] = tt
further-says p (b ∷ bs) = item-says (field further_type p (b ∷ bs)) refl (type_class (b ∷ bs))

-- a quiet field begins no item
no-type : (s t u : Bool) → T (not ((s || t) || u)) → (s || t) ≡ false
no-type true t u n = absurd n
no-type false true u n = absurd n
no-type false false u n = refl

quiet-begins : (f : Field) → T (quiet f.kind) → begins_item f ≡ false
quiet-begins f q =
    let n : T (not (is_type f.kind)) = and_right (not (bears_amount f.kind)) (not (is_type f.kind)) q in
    rw (no-type (same_kind first_type f.kind) (same_kind further_type f.kind) _ n)

quiet-left : (k : Kind) (p : ℕ) (bs : Bytes) (new : List Kind) → T (quiet k) → judged k bs ≡ good new → Left (field k p bs) new
quiet-left k p bs new q e =
    record {
      due = false;
      begins = quiet-begins (field k p bs) q;
      ready = all_from Calm (λ j. T (quiet j)) (λ j. still) new (quiet-after k bs new e (and_right (not (bears_amount k)) (not (is_type k)) q));
    }

calm-left : {k : Kind} → Calm k → (p : ℕ) (bs : Bytes) (new : List Kind) → judged k bs ≡ good new → Left (field k p bs) new
calm-left {k} (still q) p bs new e = quiet-left k p bs new q e
calm-left first p bs new e = subst (Says (field first_type p bs)) e (first_says p bs)
calm-left further p bs new e = subst (Says (field further_type p bs)) e (further-says p bs)

calm-none : {k : Kind} → Calm k → (p : ℕ) (bs : Bytes) → amount_of (field k p bs) ≡ zero_sum
unfolding amount_of
calm-none {k} (still q) p bs = adds_none (field k p bs) (and_left (not (bears_amount k)) (not (is_type k)) q)
calm-none first p bs = refl
calm-none further p bs = refl

-- ---- an amount

bears-own : {k : Kind} → Bears k → (p : ℕ) (bs : Bytes) → (amount_of (field k p bs) ≡ amount_adds (amount_in bs)) × (begins_item (field k p bs) ≡ false)
unfolding amount_of
bears-own plain p bs = (refl, refl)
bears-own of_status p bs = (refl, refl)

bears-left : {k : Kind} → Bears k → (bs : Bytes) (new : List Kind) → judged k bs ≡ good new → All Calm new
bears-left plain bs new e = all_from Calm (λ j. T (quiet j)) (λ j. still) new (quiet-after amount bs new e tt)
bears-left of_status bs new e = all_from Calm (λ j. T (quiet j)) (λ j. still) new (quiet-after status_amount bs new e tt)

-- ---- fields one after the other

-- what the items of these fields add
abbrev pub items_of : List Field → Sum
items_of fs = sum_up (λ i. amount_adds i.amount) (items_in fs)

-- the fields add what their items do; and where an amount is due, the first of them, too
abbrev Adds : Bool → List Field → Type 0
Adds false fs = sum_of fs ≡ items_of fs
Adds true fs = sum_of fs ≡ amount_adds (amount_in (first_bytes fs)) ⊕ items_of fs

calm-adds : (due : Bool) (f : Field) (fs : List Field) → begins_item f ≡ due → amount_of f ≡ zero_sum → Adds due fs → Adds false (f ∷ fs)
unfolding sum_of items_in sum_up item_before
calm-adds false f fs b z h = rw (z, b) (none_first (sum_of fs) ∙ h)
calm-adds true f fs b z h = rw (z, b) (none_first (sum_of fs) ∙ h)

amount-adds : (f : Field) (fs : List Field) → begins_item f ≡ false → amount_of f ≡ amount_adds (amount_in f.bytes) → sum_of fs ≡ items_of fs → Adds true (f ∷ fs)
unfolding sum_of items_in first_bytes
amount-adds f fs b z h = rw (b, z, h)

follow-adds : (fs : List Field) (due : Bool) (ks : List Kind) → Ready due ks → Follow fs ks → Adds due fs
unfolding sum_of items_in sum_up first_bytes amount_in
follow-adds [] false ks r h = refl
follow-adds [] true ks r h = refl
follow-adds (f ∷ fs) false [] r h = absurd h
follow-adds (f ∷ fs) true [] r h = absurd h
follow-adds (f ∷ fs) false (k ∷ ks) r (e, (new, g, rest)) =
    let c : Calm f.kind = subst Calm (sym e) r.0 in
    let l : Left f new = calm-left c f.place f.bytes new (ap (λ (j : Kind). judged j f.bytes) e ∙ g) in
    calm-adds l.due f fs l.begins (calm-none c f.place f.bytes)
    (follow-adds fs l.due (new ++ ks) (ready-more l.due new ks l.ready r.1) rest)
follow-adds (f ∷ fs) true (k ∷ ks) r (e, (new, g, rest)) =
    let b : Bears f.kind = subst Bears (sym e) r.0 in
    let own = bears-own b f.place f.bytes in
    amount-adds f fs own.1 own.0 (follow-adds fs false (new ++ ks) (all_both Calm new ks (bears-left r.0 f.bytes new g) r.1) rest)

-- a 03's fields add what its items do
pub items-add : (r : Record) → sum_of (fields_in account_header r) ≡ items_of (fields_in account_header r)
unfolding fields_of
items-add r = follow-adds (fields_in account_header r) false (fields_of account_header) (still tt, (still tt, (first, tt))) (fields-follow account_header r)
