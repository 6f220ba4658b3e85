-- Fields added one after the other are what the rules say of a line's fields. Assumes nothing.
use mathlib.Core.Path.{◌≡◌, refl, sym}
use mathlib.Core.Bool.{Bool, true, false, cond, not, ◌&&◌, ◌||◌, false≢true}
use mathlib.Core.List.{List, [], ◌∷◌, ◌++◌, append_assoc}
use Prim.Native.Nat.{ℕ, zero, suc, ◌+◌, ◌*◌, ◌≤◌}
use native.Mathlib.Omega.{arith}
use lib.Dec.{leb}
use lib.ListN.{length, length-append}
use borrow.Author.Tests.{le-leb, leb-true, not-true}
use Rattle.rules.specs.Bytes.{Bytes, comma, is_empty, clean, one_of, just}
use Rattle.rules.specs.Numbers.{digits, number}
use Rattle.rules.specs.Outcome.{Outcome, refuse, fine, ◌>>=◌, check}
use Rattle.rules.specs.TypeCodes.{Class, status, summary_only, summary_or_detail, non_monetary, unknown, type_class}
use Rattle.rules.specs.Grammar.{Kind, name, reference, ultimate_receiver, date, time, time_or_none, file_number, physical_length, block_size, version, group_status, currency, modifier, first_type}
use Rattle.rules.specs.Grammar.{further_type, status_amount, amount, item_count, funds, detail_type, text, further_text, split_amount, pair_count, days, day_amount, total, count, records, nothing}
use Rattle.rules.specs.Grammar.{same_kind, is_text, Judged, bad, good, fits, item_of, detail_of, funds_of, pairs, pairs_of, judged, and_then, take_next}
use Rattle.rules.specs.Writer.{or_twenty, kinds_after, with_commas}
use Rattle.rules.proofs.Tests.{Known, holds, fails, known}
use Rattle.base_digits.proofs.DigitTests.{and_left, and_right}
use Rattle.rules.proofs.Binds.{refused-fine}
use Rattle.laws_writer.proofs.FieldsWritten.{bad-good, from_field, Plain, plain-field, one-short, digits-short, empty-short}
use Rattle.laws_writer.proofs.ItemsWritten.{type-short}
use Rattle.write_line.specs.DraftMeaning.{Sofar, with_field, field_added, added_all}

-- ---- a good field is no longer than 76 bytes, and adds no text

abbrev pub no_text : List Kind → Bool
no_text [] = true
no_text (k ∷ ks) = not (is_text k) && no_text ks

-- how many fields these kinds take at least: a detail's type brings two more
abbrev pub weight : Kind → ℕ
weight k = cond (same_kind k detail_type) 3 1

abbrev pub reach : List Kind → ℕ
reach [] = 0
reach (k ∷ ks) = weight k + reach ks

record Good (k : Kind) (f : Bytes) (new : List Kind) : Type 0 where
  pub short : length f ≤ 76
  pub no_text : no_text new ≡ true
  pub reach : weight k ≤ reach new + 1

no-text-pairs : (n : ℕ) → no_text (pairs n) ≡ true
unfolding pairs
no-text-pairs zero = refl
no-text-pairs (suc n) = no-text-pairs n

module _ (k : Kind) (f : Bytes) (new : List Kind) where
  -- of a kind that adds none
  from-plain : weight k ≡ 1 → Plain k f new → Good k f new
  from-plain e p = record { short = p.short; no_text = rw (← p.adds); reach = omega arith }

  fits-good : weight k ≡ 1 → (t : Bool) → (t ≡ true → length f ≤ 76) → fits t ≡ good new → Good k f new
  fits-good e true s j = let z : [] ≡ new = cc in record { short = s refl; no_text = rw (← z); reach = omega arith }
  fits-good e false s j = bad-good 8 new j

  item-good : weight k ≡ 1 → (c : Class) → length f ≤ 76 → item_of c ≡ good new → Good k f new
  item-good e status s j = let z : (status_amount ∷ nothing ∷ nothing ∷ further_type ∷ []) ≡ new = cc in record { short = s; no_text = rw (← z); reach = omega arith }
  item-good e summary_only s j = let z : (amount ∷ item_count ∷ funds ∷ further_type ∷ []) ≡ new = cc in record { short = s; no_text = rw (← z); reach = omega arith }
  item-good e summary_or_detail s j = let z : (amount ∷ item_count ∷ funds ∷ further_type ∷ []) ≡ new = cc in record { short = s; no_text = rw (← z); reach = omega arith }
  item-good e non_monetary s j = bad-good 8 new j
  item-good e unknown s j = bad-good 8 new j

  first_good : weight k ≡ 1 → (t : Bool) → (t ≡ true → length f ≤ 76) → cond t (good (nothing ∷ nothing ∷ nothing ∷ [])) (item_of (type_class f)) ≡ good new → Good k f new
  first_good e true s j = let z : (nothing ∷ nothing ∷ nothing ∷ []) ≡ new = cc in record { short = s refl; no_text = rw (← z); reach = omega arith }
  first_good e false s j = item-good e (type_class f) (type-short f item_of refl new j) j

  detail-good : (c : Class) → length f ≤ 76 → weight k ≤ 3 → detail_of c ≡ good new → Good k f new
  detail-good summary_or_detail s w j = let z : (amount ∷ funds ∷ []) ≡ new = cc in record { short = s; no_text = rw (← z); reach = rw (← z) w }
  detail-good non_monetary s w j = let z : (nothing ∷ nothing ∷ []) ≡ new = cc in record { short = s; no_text = rw (← z); reach = rw (← z) w }
  detail-good status s w j = bad-good 8 new j
  detail-good summary_only s w j = bad-good 8 new j
  detail-good unknown s w j = bad-good 8 new j

  -- empty or one byte: funds
  by_byte : weight k ≡ 1 → (t : Bool) (then : List Kind) (rest : Judged) → no_text then ≡ true
      → (t ≡ true → length f ≤ 76) → (rest ≡ good new → Good k f new) → cond t (good then) rest ≡ good new → Good k f new
  by_byte e true then rest n s go j = let z : then ≡ new = cc in record { short = s refl; no_text = rw (← z) n; reach = omega arith }
  by_byte e false then rest n s go j = go j

  pair-good : weight k ≡ 1 → (t : Bool) → (t ≡ true → length f ≤ 76) → cond t (good (pairs (number f))) (bad 8) ≡ good new → Good k f new
  pair-good e true s j = let z : pairs (number f) ≡ new = cc in record { short = s refl; no_text = rw (← z) (no-text-pairs (number f)); reach = omega arith }
  pair-good e false s j = bad-good 8 new j

funds-short : (f : Bytes) → (is_empty f || one_of 48 50 f || just 90 f) ≡ true → length f ≤ 76
funds-short f h = by_cases (known (is_empty f)) (known (one_of 48 50 f))
  where
    by_cases : Known (is_empty f) → Known (one_of 48 50 f) → length f ≤ 76
    by_cases (holds e) k = empty-short f e
    by_cases (fails e) (holds g) = one-short f 48 50 g
    by_cases (fails e) (fails g) = one-short f 90 90 (rw (e, g) at h)

funds-good : (f : Bytes) (new : List Kind) → funds_of f ≡ good new → Good funds f new
unfolding funds_of
funds-good f new j =
    by_byte funds f new refl (is_empty f || one_of 48 50 f || just 90 f) [] _ refl (funds-short f) (λ j1.
    by_byte funds f new refl (just 83 f) (split_amount ∷ split_amount ∷ split_amount ∷ []) _ refl (one-short f 83 83) (λ j2.
    by_byte funds f new refl (just 86 f) (date ∷ time_or_none ∷ []) _ refl (one-short f 86 86) (λ j3.
    by_byte funds f new refl (just 68 f) (pair_count ∷ []) _ refl (one-short f 68 68) (λ j4. bad-good 8 new j4) j3) j2) j1) j

pair-count-good : (f : Bytes) (new : List Kind) → pairs_of f ≡ good new → Good pair_count f new
unfolding pairs_of
pair-count-good f new j =
    pair-good pair_count f new refl (digits 1 3 f && leb 1 (number f)) (λ e. digits-short f 1 3 (omega arith) (and_left (digits 1 3 f) (leb 1 (number f)) e)) j

good-field : (k : Kind) (f : Bytes) (new : List Kind) → is_text k ≡ false → judged k f ≡ good new → Good k f new
unfolding judged
good-field name f new t j = from-plain name f new refl (plain-field name f new refl j)
good-field reference f new t j = from-plain reference f new refl (plain-field reference f new refl j)
good-field ultimate_receiver f new t j = from-plain ultimate_receiver f new refl (plain-field ultimate_receiver f new refl j)
good-field date f new t j = from-plain date f new refl (plain-field date f new refl j)
good-field time f new t j = from-plain time f new refl (plain-field time f new refl j)
good-field time_or_none f new t j = from-plain time_or_none f new refl (plain-field time_or_none f new refl j)
good-field file_number f new t j = from-plain file_number f new refl (plain-field file_number f new refl j)
good-field physical_length f new t j = from-plain physical_length f new refl (plain-field physical_length f new refl j)
good-field block_size f new t j = from-plain block_size f new refl (plain-field block_size f new refl j)
good-field version f new t j = from-plain version f new refl (plain-field version f new refl j)
good-field group_status f new t j = from-plain group_status f new refl (plain-field group_status f new refl j)
good-field currency f new t j = from-plain currency f new refl (plain-field currency f new refl j)
good-field modifier f new t j = from-plain modifier f new refl (plain-field modifier f new refl j)
good-field status_amount f new t j = from-plain status_amount f new refl (plain-field status_amount f new refl j)
good-field amount f new t j = from-plain amount f new refl (plain-field amount f new refl j)
good-field item_count f new t j = from-plain item_count f new refl (plain-field item_count f new refl j)
good-field total f new t j = from-plain total f new refl (plain-field total f new refl j)
good-field count f new t j = from-plain count f new refl (plain-field count f new refl j)
good-field records f new t j = from-plain records f new refl (plain-field records f new refl j)
good-field nothing f new t j = from-plain nothing f new refl (plain-field nothing f new refl j)
good-field first_type f new t j = first_good first_type f new refl (is_empty f) (empty-short f) j
good-field further_type f new t j = item-good further_type f new refl (type_class f) (type-short f item_of refl new j) j
good-field detail_type f new t j = detail-good detail_type f new (type_class f) (type-short f detail_of refl new j) (omega arith) j
good-field funds f new t j = funds-good f new j
good-field split_amount f new t j = fits-good split_amount f new refl (digits 0 18 f) (digits-short f 0 18 (omega arith)) j
good-field pair_count f new t j = pair-count-good f new j
good-field days f new t j = fits-good days f new refl (digits 1 3 f) (digits-short f 1 3 (omega arith)) j
good-field day_amount f new t j = fits-good day_amount f new refl (digits 1 18 f) (digits-short f 1 18 (omega arith)) j
good-field text f new t j = absurd (false≢true (sym t))
good-field further_text f new t j = absurd (false≢true (sym t))

-- ---- fields one after the other

-- a refusal stays
refused_all : (fs : List Bytes) (last n p : ℕ) → added_all fs last (refuse n p) ≡ refuse n p
unfolding field_added
refused_all [] last n p = refl
refused_all (f ∷ []) last n p = refl
refused_all (f ∷ g ∷ fs) last n p = refused_all (g ∷ fs) last n p

-- one field: refused alike, or good, and then short
data OneField (tail ks : List Kind) (bs f : Bytes) (fs : List Bytes) : Type 0 where
  refused-field :
      ((mark : ℕ) → with_field f mark (record { kinds = ks ++ tail; bytes = bs }) ≡ refuse 20 0) → kinds_after ks (f ∷ fs) ≡ refuse 20 0
      → OneField tail ks bs f fs
  taken-field :
      (next : List Kind) → length f ≤ 76 → no_text next ≡ true → reach ks ≤ reach next + 1
      → ((mark : ℕ) → with_field f mark (record { kinds = ks ++ tail; bytes = bs }) ≡ fine (record { kinds = next ++ tail; bytes = bs ++ (f ++ (mark ∷ [])) }))
      → kinds_after ks (f ∷ fs) ≡ kinds_after next fs → OneField tail ks bs f fs

reach-both : (ks js : List Kind) → reach (ks ++ js) ≡ reach ks + reach js
reach-both [] js = omega arith
reach-both (k ∷ ks) js = rw (reach-both ks js) (omega arith)

no-text-both : (ks js : List Kind) → no_text ks ≡ true → no_text js ≡ true → no_text (ks ++ js) ≡ true
no-text-both [] js h g = g
no-text-both (k ∷ ks) js h g = rw (and_left (not (is_text k)) (no_text ks) h, no-text-both ks js (and_right (not (is_text k)) (no_text ks) h) g)

-- nothing stands after these kinds, or they take that many fields
abbrev pub reaches : List Kind → List Kind → List Bytes → Bool
reaches [] ks fs = true
reaches (t ∷ tail) ks fs = leb (length fs) (reach ks)

refused-either : {A : Type 0} (t : Bool) → ◌≡◌ {A = Outcome A} (check t 20 0 >>= λ _. refuse 20 0) (refuse 20 0)
refused-either true = refl
refused-either false = refl

module _ (bs f : Bytes) (fs : List Bytes) (room : length bs + 77 ≤ 640) where
  unclean : (tail ks : List Kind) → clean f ≡ false → OneField tail ks bs f fs
  unfolding with_field kinds_after
  unclean tail ks e = refused-field (λ mark. rw (le-leb (length bs + 77) 640 room, e)) (rw e)

  -- one too many
  no_kind : (tail : List Kind) → reaches tail [] (f ∷ fs) ≡ true → clean f ≡ true → OneField tail [] bs f fs
  unfolding with_field kinds_after take_next
  no_kind [] h e = refused-field (λ mark. rw (le-leb (length bs + 77) 640 room, e) (refused-either (leb (length f) 76))) (rw e)
  no_kind (t ∷ tail) h e = absurd (omega (arith, leb-true (length (f ∷ fs)) 0 h))

  judged-so : (tail : List Kind) (k : Kind) (ks : List Kind) (j : Judged) → no_text (k ∷ ks) ≡ true → clean f ≡ true → judged k f ≡ j → OneField tail (k ∷ ks) bs f fs
  unfolding with_field kinds_after take_next and_then
  judged-so tail k ks (bad n) h e j = refused-field (λ mark. rw (le-leb (length bs + 77) 640 room, e, j) (refused-either (leb (length f) 76))) (rw (e, j))
  judged-so tail k ks (good new) h e j =
      let g = good-field k f new (not-true (is_text k) (and_left (not (is_text k)) (no_text ks) h)) j in
      taken-field (new ++ ks) g.short (no-text-both new ks g.no_text (and_right (not (is_text k)) (no_text ks) h)) (omega (arith, g.reach, reach-both new ks))
      (λ mark. rw (le-leb (length bs + 77) 640 room, e, le-leb (length f) 76 g.short, j, append_assoc new ks tail)) (rw (e, j))

  one_field : (tail ks : List Kind) → no_text ks ≡ true → reaches tail ks (f ∷ fs) ≡ true → Known (clean f) → OneField tail ks bs f fs
  one_field tail ks h r (fails e) = unclean tail ks e
  one_field tail [] h r (holds e) = no_kind tail r e
  one_field tail (k ∷ ks) h r (holds e) = judged-so tail k ks (judged k f) h e refl

reaches-next : (tail ks next : List Kind) (f g : Bytes) (fs : List Bytes) → reaches tail ks (f ∷ g ∷ fs) ≡ true → reach ks ≤ reach next + 1 → reaches tail next (g ∷ fs) ≡ true
reaches-next [] ks next f g fs h r = refl
reaches-next (t ∷ tail) ks next f g fs h r = le-leb (length (g ∷ fs)) (reach next) (omega (arith, leb-true (length (f ∷ g ∷ fs)) (reach ks) h))

-- the kinds wanted after them, and their bytes with commas
abbrev pub line_sofar : List Kind → Bytes → List Bytes → ℕ → List Kind → Sofar
line_sofar tail bs fs last left = record { kinds = left ++ tail; bytes = bs ++ (with_commas fs ++ (last ∷ [])) }

-- all fields: what the rules say of them
module _ (tail : List Kind) (last : ℕ) where
  chain-step : (ks : List Kind) (bs f g : Bytes) (fs : List Bytes) → no_text ks ≡ true → reaches tail ks (f ∷ g ∷ fs) ≡ true → length bs + 77 * length (f ∷ g ∷ fs) ≤ 640
      → ((next : List Kind) (cs : Bytes) → no_text next ≡ true → reaches tail next (g ∷ fs) ≡ true → length cs + 77 * length (g ∷ fs) ≤ 640
      → added_all (g ∷ fs) last (fine (record { kinds = next ++ tail; bytes = cs })) ≡ (kinds_after next (g ∷ fs) >>= λ left. fine (line_sofar tail cs (g ∷ fs) last left)))
      → OneField tail ks bs f (g ∷ fs)
      → added_all (f ∷ g ∷ fs) last (fine (record { kinds = ks ++ tail; bytes = bs })) ≡ (kinds_after ks (f ∷ g ∷ fs) >>= λ left. fine (line_sofar tail bs (f ∷ g ∷ fs) last left))
  unfolding with_commas field_added
  chain-step ks bs f g fs h r n ih (refused-field a b) = rw (a comma, b) (refused_all (g ∷ fs) last 20 0)
  chain-step ks bs f g fs h r n ih (taken-field next s t q a b) =
      let cs = bs ++ (f ++ (comma ∷ [])) in
      let size : length cs ≡ length bs + (length f + 1) = rw (length-append bs (f ++ (comma ∷ [])), length-append f (comma ∷ [])) in
      let bytes : bs ++ ((f ++ (comma ∷ with_commas (g ∷ fs))) ++ (last ∷ [])) ≡ cs ++ (with_commas (g ∷ fs) ++ (last ∷ [])) = simp append_assoc in
      rw (a comma, b, bytes) (ih next cs t (reaches-next tail ks next f g fs r q) (omega arith))

  pub chain-is : (ks : List Kind) (bs f : Bytes) (fs : List Bytes) → no_text ks ≡ true → reaches tail ks (f ∷ fs) ≡ true → length bs + 77 * length (f ∷ fs) ≤ 640
      → added_all (f ∷ fs) last (fine (record { kinds = ks ++ tail; bytes = bs })) ≡ (kinds_after ks (f ∷ fs) >>= λ left. fine (line_sofar tail bs (f ∷ fs) last left))
  unfolding with_commas kinds_after field_added
  chain-is ks bs f [] h r n = by_field (one_field bs f [] (omega arith) tail ks h r (known (clean f)))
    where
      by_field : OneField tail ks bs f [] → with_field f last (record { kinds = ks ++ tail; bytes = bs }) ≡ (kinds_after ks (f ∷ []) >>= λ left. fine (line_sofar tail bs (f ∷ []) last left))
      by_field (refused-field a b) = rw (a last, b)
      by_field (taken-field next s t q a b) = rw (a last, b)
  chain-is ks bs f (g ∷ fs) h r n =
      chain-step ks bs f g fs h r n (λ next u v w m. chain-is next u g fs v w m) (one_field bs f (g ∷ fs) (omega arith) tail ks h r (known (clean f)))

-- ---- how long their bytes are

fields-step : (ks : List Kind) (f : Bytes) (fs : List Bytes) (left : List Kind) → no_text ks ≡ true → kinds_after ks (f ∷ fs) ≡ fine left
    → {P : Type 0} → ((next : List Kind) → length f ≤ 76 → no_text next ≡ true → kinds_after next fs ≡ fine left → P) → P
unfolding kinds_after take_next
fields-step [] f fs left h e go = by-clean (clean f) e
  where
    by-clean : {P : Type 0} (t : Bool) → (check t 20 0 >>= λ _. or_twenty (bad 8) >>= λ next. kinds_after next fs) ≡ fine left → P
    by-clean true g = absurd (refused-fine _ left g)
    by-clean false g = absurd (refused-fine _ left g)
fields-step (k ∷ ks) f fs left h e go =
    from_field k f ks fs left e (λ new c j q.
    let g = good-field k f new (not-true (is_text k) (and_left (not (is_text k)) (no_text ks) h)) j in
    go (new ++ ks) g.short (no-text-both new ks g.no_text (and_right (not (is_text k)) (no_text ks) h)) q)

pub fields_fit : (ks : List Kind) (f : Bytes) (fs : List Bytes) (left : List Kind) → no_text ks ≡ true → kinds_after ks (f ∷ fs) ≡ fine left → length (with_commas (f ∷ fs)) + 1 ≤ 77 * length (f ∷ fs)
unfolding with_commas
fields_fit ks f [] left h e = fields-step ks f [] left h e (λ next s t q. omega arith)
fields_fit ks f (g ∷ fs) left h e =
    fields-step ks f (g ∷ fs) left h e (λ next s t q. rw (length-append f (comma ∷ with_commas (g ∷ fs))) (omega (arith, fields_fit next g fs left t q)))
