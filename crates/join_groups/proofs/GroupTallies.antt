-- What a loop over groups has taken so far, and what is left to take: their numbers, and the bytes that were put. Assumes nothing.
use Prim.Native.Nat.{ℕ, ◌+◌, ◌-◌, ◌≤◌, ◌<◌, ◌^◌, min}
use native.Mathlib.Omega.{arith}
use native.Mathlib.Nat.{zero-add, add_assoc, mod-mod, mod-add-mod}
use mathlib.Core.Path.{◌≡◌, sym, ap, subst, ◌∙◌}
use mathlib.Core.Bool.{true, false}
use mathlib.Core.List.{List, [], ◌∷◌, ◌++◌}
use borrow.Author.Tests.{leb-true, leb-false}
use borrow.Rule.Slice.PartMut.{mid_of, put_mid}
use lib.Dec.{leb}
use lib.ListN.{length, length-append, length-drop, take-append-drop}
use Rattle.rules.specs.Bytes.{Bytes}
use Rattle.rules.specs.Numbers.{Sum, zero_sum, ◌⊕◌}
use Rattle.rules.specs.Lines.{Record, record_bytes}
use Rattle.rules.specs.Combine.{concat}
use Rattle.rules.proofs.Tests.{Known, holds, fails, known}
use Rattle.base_quantities.specs.QuantityMeanings.{sum_meant, wrapped, wrapped_sum, most_records}
use Rattle.base_quantities.proofs.UnitsLaws.{not-wrapped}
use Rattle.base_quantities.specs.declared.Units.{Units}
use Rattle.base_quantities.specs.declared.Records.{Records}
use Rattle.base_numerals.specs.PutBytes.{Put}
use Rattle.base_numerals.proofs.PutLaws.{put-unique, put-short, rest-is, rest_back}
use Rattle.base_slices.specs.WroteBytes.{Wrote}
use Rattle.base_slices.proofs.WroteLaws.{wrote_none, wrote-part, part_count, wrote-all}
use Rattle.laws.specs.LawWords.{add_up, sum_up}
use Rattle.laws.proofs.KeptBytes.{bytes-append}
use Rattle.join_groups.specs.StatedNumbers.{stated_total, stated_records}
use Rattle.join_groups.specs.GroupsTaken.{last_in, total_stated, records_stated, tally_of, fitting_bytes, slice_put}
use Rattle.join_groups.specs.declared.Tally.{Tally}

-- ---- numbers that wrap, and counts that stop

-- what is added after a wrap and what is added before it give the same
wrapped-first : (a b c : ℕ) → wrapped (wrapped (a + b) + c) ≡ wrapped (a + (b + c))
wrapped-first a b c = mod-add-mod (a + b) (2 ^ 64) c ∙ ap wrapped (add_assoc a b c)

pub sum-wrapped-first : (a b c : Sum) → wrapped_sum (wrapped_sum (a ⊕ b) ⊕ c) ≡ wrapped_sum (a ⊕ (b ⊕ c))
sum-wrapped-first a b c = rw (wrapped-first a.pluses b.pluses c.pluses, wrapped-first a.minuses b.minuses c.minuses)

-- a wrap after a wrap changes nothing
sum-wrapped-once : (a : Sum) → wrapped_sum (wrapped_sum a) ≡ wrapped_sum a
sum-wrapped-once a = rw (mod-mod a.pluses (2 ^ 64), mod-mod a.minuses (2 ^ 64))

wrapped_same : (n m : ℕ) → wrapped n ≡ n → wrapped (n + 0) ≡ m → n ≡ m
wrapped_same n m h e = let same : n + 0 ≡ n = omega arith in sym h ∙ ap wrapped (sym same) ∙ e

stopped-first : (a b c : ℕ) → min (min (a + b) most_records + c) most_records ≡ min (a + (b + c)) most_records
stopped-first a b c = omega arith

-- ---- what fits

fitting-step : (room : ℕ) (g : List Record) (gs : List (List Record)) → ((r : ℕ) → length (fitting_bytes r gs) ≤ r) → Known (leb (length (record_bytes g)) room) → length (fitting_bytes room (g ∷ gs)) ≤ room
unfolding fitting_bytes
fitting-step room g gs ih (holds e) =
    let h = leb-true (length (record_bytes g)) room e in
    let rest = fitting_bytes (room - length (record_bytes g)) gs in
    rw e (omega (arith, length-append (record_bytes g) rest, ih (room - length (record_bytes g))))
fitting-step room g gs ih (fails e) = rw e (ih room)

pub fitting-most : (gs : List (List Record)) (room : ℕ) → length (fitting_bytes room gs) ≤ room
unfolding fitting_bytes
fitting-most [] room = omega arith
fitting-most (g ∷ gs) room = fitting-step room g gs (fitting-most gs) (known (leb (length (record_bytes g)) room))

-- a call that is lent the rest puts the group's bytes, or nothing
module _ (result before : Bytes) (o : ℕ) (g : List Record) (gs : List (List Record)) (out : Bytes) (r : ℕ) (after : Bytes)
    (w : Wrote result before o (fitting_bytes (length before - o) (g ∷ gs)) out) (p : Put (record_bytes g) (mid_of o (length out - o) out) r after) where
  abbrev bs : Bytes
  bs = record_bytes g

  abbrev Puts : ℕ → Bytes → Type 0
  Puts k now = Wrote result before k (fitting_bytes (length before - k) gs) now

  lent-size : length (mid_of o (length out - o) out) ≡ length before - o
  lent-size = rw (rest-is o out) (length-drop o out ∙ rw w.long)

  fits : leb (length bs) (length before - o) ≡ true → Puts (o + r) (put_mid o (length out - o) out after)
  unfolding fitting_bytes
  fits e =
      let w' : Wrote result before o (bs ++ fitting_bytes ((length before - o) - length bs) gs) out = rw e at w in
      let size = part_count result before o bs (fitting_bytes ((length before - o) - length bs) gs) out r after w' p in
      let left : (length before - o) - length bs ≡ length before - (o + r) = omega (arith, size) in
      subst (λ (k : ℕ). Wrote result before (o + r) (fitting_bytes k gs) (put_mid o (length out - o) out after)) left
      (wrote-part result before o bs (fitting_bytes ((length before - o) - length bs) gs) out r after w' p)

  too_long : leb (length bs) (length before - o) ≡ false → Puts (o + r) (put_mid o (length out - o) out after)
  unfolding fitting_bytes
  too_long e =
      let w' : Puts o out = rw e at w in
      let short : length (mid_of o (length out - o) out) < length bs = omega (arith, lent-size, leb-false (length bs) (length before - o) e) in
      let (none, same) = put-unique p (put-short bs (mid_of o (length out - o) out) short) in
      let back : put_mid o (length out - o) out after ≡ out =
      rest_back o out after (omega (arith, w.room, w.long)) ∙ rw (same, rest-is o out) (take-append-drop o out) in
      let same_place : o + r ≡ o = omega (arith, none) in
      rw (same_place, back) w'

  put_next : Puts (o + r) (put_mid o (length out - o) out after)
  put_next = go (known (leb (length bs) (length before - o)))
    where
      go : Known (leb (length bs) (length before - o)) → Puts (o + r) (put_mid o (length out - o) out after)
      go (holds e) = fits e
      go (fails e) = too_long e

-- ---- so far, and ahead

pub record Taking (all ahead : List (List Record)) (before : Bytes) (groups bytes : ℕ) (sum : Sum) (lines o : ℕ) (out : Bytes) : Type 0 where
  pub count : groups + length ahead ≡ length all
  pub size : bytes + length (record_bytes (concat ahead)) ≡ length (record_bytes (concat all))
  pub total : wrapped_sum (sum ⊕ total_stated ahead) ≡ wrapped_sum (total_stated all)
  pub kept : wrapped_sum sum ≡ sum
  pub records : min (lines + records_stated ahead) most_records ≡ min (records_stated all) most_records
  pub few : lines ≤ most_records
  pub wrote : Wrote (fitting_bytes (length before) all) before o (fitting_bytes (length before - o) ahead) out

pub take-start : (gs : List (List Record)) (before : Bytes) → Taking gs gs before 0 0 zero_sum 0 0 before
take-start gs before =
    let all_left : length before - 0 ≡ length before = omega arith in
    record {
      count = omega arith;
      size = omega arith;
      total = rw (zero-add (total_stated gs).pluses, zero-add (total_stated gs).minuses);
      kept = rw (not-wrapped 0 (omega arith));
      records = rw (zero-add (records_stated gs));
      few = omega arith;
      wrote = rw all_left (wrote_none (fitting_bytes (length before) gs) before (fitting-most gs (length before)));
    }

pub take-one : (all : List (List Record)) (g : List Record) (gs : List (List Record)) (before : Bytes) (groups bytes : ℕ) (sum : Sum) (lines o : ℕ) (out : Bytes) (r : ℕ) (after : Bytes)
    → Taking all (g ∷ gs) before groups bytes sum lines o out → Put (record_bytes g) (mid_of o (length out - o) out) r after
    → Taking all gs before (groups + 1) (bytes + length (record_bytes g)) (wrapped_sum (sum ⊕ stated_total (last_in g))) (min (lines + stated_records (last_in g)) most_records) (o + r) (put_mid o (length out - o) out after)
unfolding concat total_stated records_stated sum_up add_up
take-one all g gs before groups bytes sum lines o out r after t p =
    let b : length (record_bytes (g ++ concat gs)) ≡ length (record_bytes g) + length (record_bytes (concat gs)) =
    ap length (bytes-append g (concat gs)) ∙ length-append (record_bytes g) (record_bytes (concat gs)) in
    record {
      count = omega (arith, t.count);
      size = omega (arith, t.size);
      total = sum-wrapped-first sum (stated_total (last_in g)) (total_stated gs) ∙ t.total;
      kept = sum-wrapped-once (sum ⊕ stated_total (last_in g));
      records = stopped-first lines (stated_records (last_in g)) (records_stated gs) ∙ t.records;
      few = omega arith;
      wrote = put_next (fitting_bytes (length before) all) before o g gs out r after t.wrote p;
    }

module _ (gs : List (List Record)) (before : Bytes) (groups bytes : ℕ) (total : Units) (records : Records) (o : ℕ) (out : Bytes)
    (t : Taking gs [] before groups bytes (sum_meant total) records.0 o out) where
  pub take-end : ◌≡◌ {A = Tally} (record { groups = record { 0 = groups }; bytes = bytes; total = total; records = records }) (tally_of gs)
  unfolding concat total_stated records_stated sum_up add_up record_bytes tally_of
  take-end =
      let count : groups ≡ length gs = omega (arith, t.count) in
      let size : bytes ≡ length (record_bytes (concat gs)) = omega (arith, t.size) in
      let pluses = wrapped_same total.0 (wrapped (total_stated gs).pluses) (ap (λ (s : Sum). s.pluses) t.kept) (ap (λ (s : Sum). s.pluses) t.total) in
      let minuses = wrapped_same total.1 (wrapped (total_stated gs).minuses) (ap (λ (s : Sum). s.minuses) t.kept) (ap (λ (s : Sum). s.minuses) t.total) in
      let lines : records.0 ≡ min (records_stated gs) most_records = omega (arith, t.records, t.few) in
      λ i. record { groups = record { 0 = count i }; bytes = size i; total = record { 0 = pluses i; 1 = minuses i }; records = record { 0 = lines i } }

  pub take_put : out ≡ slice_put gs before
  unfolding fitting_bytes slice_put
  take_put = wrote-all t.wrote
