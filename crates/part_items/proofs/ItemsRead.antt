-- The items that are read of fields that come one after the other are the rules' items: each field was judged good where its kind was wanted. Assumes nothing.
use native.Mathlib.Omega.{arith}
use mathlib.Core.Path.{◌≡◌, refl, sym, ap, subst, ◌∙◌}
use mathlib.Core.Bool.{Bool, true, false, not, ◌&&◌, ◌||◌, false≢true}
use mathlib.Core.List.{List, [], ◌∷◌, ◌++◌}
use mathlib.Core.Option.{some}
use Rattle.rules.specs.Bytes.{Bytes, is_empty}
use Rattle.rules.specs.Numbers.{digits, number}
use Rattle.rules.specs.Amounts.{amount_in}
use Rattle.rules.specs.TypeCodes.{Class, status, summary_only, summary_or_detail, non_monetary, unknown, type_class}
use Rattle.rules.specs.Grammar.{Kind, first_type, further_type, status_amount, amount, item_count, funds, nothing, bad, good, fits, is_signed, is_unsigned, item_of, judged, same_kind}
use Rattle.rules.specs.Records.{Field}
use Rattle.rules.specs.Items.{begins_item, first_bytes, second_bytes, number_in, item_before, items_in}
use Rattle.rules.proofs.Tests.{Known, holds, fails, known}
use Rattle.base_digits.specs.NumbersRead.{value_of}
use Rattle.base_digits.proofs.ReadingLaws.{value-is}
use Rattle.base_amounts.specs.AmountsRead.{amount_read}
use Rattle.read_kinds.proofs.KindLaws.{same_kind_lem}
use Rattle.read_kept.proofs.EachKind.{Amounts, reads-status, reads-amount}
use Rattle.laws_amounts.proofs.FieldsFollow.{Follow}
use Rattle.find_item.specs.ItemSearch.{count_read, item_read, items_read}

-- ---- an item count is a number, or none

abbrev CountRead : Bytes → Type 0
CountRead bs = count_read bs ≡ number_in bs

-- good fields of this kind are read as one
abbrev Counts : Kind → Type 0
Counts k = (bs : Bytes) (new : List Kind) → judged k bs ≡ good new → CountRead bs

fitted : (t : Bool) (new : List Kind) → fits t ≡ good new → t ≡ true
fitted true new h = refl
fitted false new h = cc

bad-good : (new : List Kind) → bad 8 ≡ good new → ⊥
bad-good new h = let z : false ≡ true = cc in false≢true z

none-new : (t : Bool) (new : List Kind) → fits t ≡ good new → new ≡ []
none-new true new h = cc
none-new false new h = cc

reads-count : Counts item_count
unfolding judged count_read number_in
reads-count [] new e = refl
reads-count (b ∷ bs) new e = ap some (value-is 0 9 (b ∷ bs) (fitted _ new e) (omega arith))

reads_nothing : Counts nothing
unfolding judged count_read number_in is_empty
reads_nothing [] new e = refl
reads_nothing (b ∷ bs) new e = let z : false ≡ true = fitted false new e in absurd (false≢true z)

-- ---- after a type come its amount and its item count

-- good fields of this kind want none after them
abbrev Alone : Kind → Type 0
Alone k = (bs : Bytes) (new : List Kind) → judged k bs ≡ good new → new ≡ []

status-alone : Alone status_amount
unfolding judged
status-alone bs new e = none-new (is_empty bs || is_signed bs) new e

amount-alone : Alone amount
unfolding judged
amount-alone bs new e = none-new (is_empty bs || is_unsigned bs) new e

abbrev BothRead : List Field → Type 0
BothRead fs = (amount_read (first_bytes fs) ≡ amount_in (first_bytes fs)) × CountRead (second_bytes fs)

module _ (ka kc : Kind) (ks : List Kind) (amounts : Amounts ka) (alone : Alone ka) (counts : Counts kc) where
  second-read : (fs : List Field) → Follow fs (kc ∷ ks) → CountRead (first_bytes fs)
  unfolding first_bytes count_read number_in
  second-read [] h = refl
  second-read (f ∷ fs) (e, (new, g, rest)) = counts f.bytes new g

  both_read : (fs : List Field) → Follow fs (ka ∷ kc ∷ ks) → BothRead fs
  unfolding first_bytes second_bytes amount_read amount_in count_read number_in
  both_read [] h = (refl, refl)
  both_read (f ∷ fs) (e, (new, g, rest)) =
      (amounts f.bytes new g, second-read fs (subst (λ (js : List Kind). Follow fs (js ++ (kc ∷ ks))) (alone f.bytes new g) rest))

-- ---- an item

module _ (bs : Bytes) (new ks : List Kind) (fs : List Field) (e : item_of (type_class bs) ≡ good new) (h : Follow fs (new ++ ks)) where
  type-read : value_of bs ≡ number bs
  unfolding type_class
  type-read = go (known (digits 3 3 bs))
    where
      go : Known (digits 3 3 bs) → value_of bs ≡ number bs
      go (holds t) = value-is 3 3 bs t (omega arith)
      go (fails t) = absurd (bad-good new (rw t at e))

  rest_read : (c : Class) → item_of c ≡ good new → BothRead fs
  rest_read status q =
      let z : new ≡ (status_amount ∷ nothing ∷ nothing ∷ further_type ∷ []) = cc in
      both_read status_amount nothing ((nothing ∷ further_type ∷ []) ++ ks) reads-status status-alone reads_nothing fs (subst (λ (js : List Kind). Follow fs (js ++ ks)) z h)
  rest_read summary_only q =
      let z : new ≡ (amount ∷ item_count ∷ funds ∷ further_type ∷ []) = cc in
      both_read amount item_count ((funds ∷ further_type ∷ []) ++ ks) reads-amount amount-alone reads-count fs (subst (λ (js : List Kind). Follow fs (js ++ ks)) z h)
  rest_read summary_or_detail q =
      let z : new ≡ (amount ∷ item_count ∷ funds ∷ further_type ∷ []) = cc in
      both_read amount item_count ((funds ∷ further_type ∷ []) ++ ks) reads-amount amount-alone reads-count fs (subst (λ (js : List Kind). Follow fs (js ++ ks)) z h)
  rest_read non_monetary q = absurd (bad-good new q)
  rest_read unknown q = absurd (bad-good new q)

  item-same : (f : Field) → f.bytes ≡ bs → item_read f.bytes fs ≡ item_before f fs
  unfolding item_read item_before
  item-same f b = let r = rest_read (type_class bs) e in rw (b, type-read, r.0, r.1)

-- ---- a field that begins one

first-wants : (bs : Bytes) (new : List Kind) → is_empty bs ≡ false → judged first_type bs ≡ good new → item_of (type_class bs) ≡ good new
unfolding judged
first-wants bs new n e = rw n at e

further-wants : (bs : Bytes) (new : List Kind) → judged further_type bs ≡ good new → item_of (type_class bs) ≡ good new
unfolding judged
further-wants bs new e = e

data Type-of (f : Field) : Type 0 where
  first : f.kind ≡ first_type → Type-of f
  further : f.kind ≡ further_type → Type-of f

by_kind : (s t u : Bool) {A : Type 0} → ((s || t) && u) ≡ true → (s ≡ true → A) → (t ≡ true → A) → A × (u ≡ true)
by_kind true t true h x y = (x refl, refl)
by_kind false true true h x y = (y refl, refl)
by_kind true t false h x y = absurd (false≢true h)
by_kind false true false h x y = absurd (false≢true h)
by_kind false false u h x y = absurd (false≢true h)

not_so : (t : Bool) → not t ≡ true → t ≡ false
not_so true h = cc
not_so false h = refl

wants : (f : Field) (new : List Kind) → begins_item f ≡ true → judged f.kind f.bytes ≡ good new → item_of (type_class f.bytes) ≡ good new
wants f new b e =
    let k = by_kind (same_kind first_type f.kind) (same_kind further_type f.kind) (not (is_empty f.bytes)) b
    (λ t. first (same_kind_lem first_type f.kind t)) (λ t. further (same_kind_lem further_type f.kind t)) in
    go k.0 (not_so (is_empty f.bytes) k.1)
  where
    go : Type-of f → is_empty f.bytes ≡ false → item_of (type_class f.bytes) ≡ good new
    go (first k) n = first-wants f.bytes new n (ap (λ (j : Kind). judged j f.bytes) (sym k) ∙ e)
    go (further k) n = further-wants f.bytes new (ap (λ (j : Kind). judged j f.bytes) (sym k) ∙ e)

-- ---- all items

step : (f : Field) (fs : List Field) (new ks : List Kind) → judged f.kind f.bytes ≡ good new → Follow fs (new ++ ks) → items_read fs ≡ items_in fs → Known (begins_item f)
    → items_read (f ∷ fs) ≡ items_in (f ∷ fs)
unfolding items_read items_in
step f fs new ks e h ih (holds b) = rw (b, ih, item-same f.bytes new ks fs (wants f new b e) h f refl)
step f fs new ks e h ih (fails b) = rw b ih

pub items-read : (fs : List Field) (ks : List Kind) → Follow fs ks → items_read fs ≡ items_in fs
unfolding items_read items_in
items-read [] ks h = refl
items-read (f ∷ fs) [] h = absurd h
items-read (f ∷ fs) (k ∷ ks) (e, (new, g, rest)) =
    step f fs new ks (ap (λ (j : Kind). judged j f.bytes) e ∙ g) rest (items-read fs (new ++ ks) rest) (known (begins_item f))
