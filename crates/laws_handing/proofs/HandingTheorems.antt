-- The theorems on what is handed out of an accepted file: each of its records, and of each its fields. Assumes nothing.
use Prim.Native.Nat.{ℕ, suc, ◌+◌, ◌*◌, ◌≤◌, ◌<◌}
use mathlib.Core.Path.{◌≡◌, refl, sym, ap, subst, ◌∙◌}
use mathlib.Core.List.{List, [], ◌∷◌, ◌++◌, append_assoc}
use lib.Dec.{T}
use lib.ListN.{length, drop}
use borrow.Author.Tests.{le-leb, lt-leb}
use lib.Seq.{drop-length}
use Rattle.rules.specs.Bytes.{Bytes}
use Rattle.rules.specs.Outcome.{Outcome, fine, refuse, or_else, moved}
use Rattle.rules.specs.Lines.{Code, group_header, lines_of, Record, records_of, record_size, file_records}
use Rattle.rules.specs.Grammar.{ultimate_receiver}
use Rattle.rules.specs.Records.{Field, the, walk_record}
use Rattle.rules.specs.Totals.{Summary, ◌⊞◌, amount_of, sum_of, adding, of_record}
use Rattle.rules.specs.Numbers.{Sum, ◌⊕◌}
use Rattle.rules.specs.Verdict.{start, run, judge, coded}
use Rattle.rules.specs.Parts.{heads, header_in, groups_in, size_of_all, fields_in, first_fields, receiver_of}
use Rattle.rules.specs.Combine.{summary_of, summary_of_all, concat}
use Rattle.rules.specs.HandedOut.{first_coded, record_at, record_answer, fields_at, fields_out}
use Rattle.rules.proofs.Accepted.{accepted}
use Rattle.laws.specs.LawWords.{All, IsGroup, Of}
use Rattle.laws.proofs.Lists.{all_right, concat-append}
use Rattle.laws.proofs.Codes.{code-of, one_code}
use Rattle.laws.proofs.Shape.{is-file, file-codes}
use Rattle.laws.proofs.RecordsTaken.{taken}
use Rattle.laws.proofs.RunsOfRecords.{run-two, run-cons}
use Rattle.laws.proofs.Groups.{decomposed, summary-is}
use Rattle.laws.proofs.SummarySums.{summary-as}
use Rattle.laws_handing.specs.HandingWords.{RecordMet, FieldsMet, ReceiverMet, amount_handed, amounts_handed, amounts_from}
use Rattle.laws_handing.proofs.RecordPlaces.{size-next, size-file, cut-from}

-- ---- records

first-met : (p : ℕ) (c : Code) (r : Record) (qs : List Record) → T (heads c r) → first_coded p (r ∷ qs) ≡ fine (record { code = c; lines = r })
unfolding first_coded coded
first-met p c [] qs h = absurd h
first-met p c (l ∷ ls) qs h = rw (code-of c l h)

-- in an accepted file each record is met at its place, none refused: the place is the sum of the lengths of the records before it
pub records-met : (file : Bytes) (s : Summary) → judge file ≡ fine s → (before : List Record) (r : Record) (after : List Record)
    → file_records file ≡ before ++ (r ∷ after) → RecordMet file (size_of_all before) r
unfolding record_at
records-met file s h before r after e =
    let codes = all_right (Of _) before (r ∷ after) (subst (All (Of _)) e (file-codes file (is-file file s h))) in
    let o = codes.0 in
    record {
      code = o.code;
      is_code = o.is_code;
      met = rw (cut-from file before r after e) (first-met (size_of_all before) o.code r after o.is_code);
    }

-- the next place is its length further
pub next_place : (before : List Record) (r : Record) → size_of_all (before ++ (r ∷ [])) ≡ size_of_all before + record_size r
next_place before r = size-next before r

-- the last record ends at the file's length, and there none is met: 17
pub records-end : (file : Bytes) → (size_of_all (file_records file) ≡ length file) × (record_at file (length file) ≡ refuse 17 0)
unfolding record_at first_coded file_records lines_of records_of
records-end file = (size-file file, rw (drop-length file))

-- ---- fields

-- the reader took each record of an accepted file
walked-in : (file : Bytes) (s : Summary) → judge file ≡ fine s → (before : List Record) (r : Record) (after : List Record)
    → file_records file ≡ before ++ (r ∷ after) → (c : Code) → T (heads c r) → walk_record c r ≡ fine (fields_in c r)
walked-in file s h before r after e c is_c =
    let a = accepted file s h in
    let (t, first, rest) = run-two 0 start a.last before (r ∷ after) (subst (λ (rs : List Record). run 0 start rs ≡ fine a.last) e a.runs) in
    let (u, steps, others) = run-cons 0 t a.last r after rest in
    (taken c t r u is_c steps).walked

fields-of : (file : Bytes) (p : ℕ) (c : Code) (r : Record) (fs : List Field) → record_at file p ≡ fine (record { code = c; lines = r }) → walk_record c r ≡ fine fs
    → fields_at file p ≡ fine fs
unfolding fields_at moved
fields-of file p c r fs m w = rw m (rw w)

module _ (file : Bytes) (p : ℕ) (fs : List Field) (m : fields_at file p ≡ fine fs) (room : ℕ) where
  out-fits : 3 * length fs ≤ room → fields_out file p room ≡ fine fs
  unfolding fields_out
  out-fits h = rw m (rw (le-leb (3 * length fs) room h))

  out-refused : room < 3 * length fs → fields_out file p room ≡ refuse 15 0
  unfolding fields_out
  out-refused h = rw m (rw (lt-leb (3 * length fs) room h))

-- of each record of an accepted file the fields handed out are those that the reader took, and none is refused, but by 15 where the slice is too short
pub fields-met : (file : Bytes) (s : Summary) → judge file ≡ fine s → (before : List Record) (r : Record) (after : List Record)
    → file_records file ≡ before ++ (r ∷ after) → FieldsMet file (size_of_all before) r
fields-met file s h before r after e =
    let x = records-met file s h before r after e in
    let fs = fields_in x.code r in
    let w = walked-in file s h before r after e x.code x.is_code in
    let m = fields-of file (size_of_all before) x.code r fs x.met w in
    record {
      code = x.code;
      is_code = x.is_code;
      fields = fs;
      taken = w;
      met = m;
      with-room = out-fits file (size_of_all before) fs m;
      without-room = out-refused file (size_of_all before) fs m;
    }

-- ---- a group's receiver

receiver-of : (h : Record) (rs : List Record) (c : Code) (fs : List Field) → c ≡ group_header → walk_record c h ≡ fine fs
    → (the ultimate_receiver fs).bytes ≡ receiver_of (h ∷ rs)
unfolding receiver_of first_fields fields_in
receiver-of h rs c fs is-02 w =
    ap (λ (o : Outcome (List Field)). (the ultimate_receiver (or_else o [])).bytes) (sym w ∙ ap (λ (d : Code). walk_record d h) is-02)

-- where a group's first record stands
group-starts : (file : Bytes) (s : Summary) → judge file ≡ fine s → (gs : List (List Record)) (h : Record) (rs : List Record) (hs : List (List Record))
    → groups_in file ≡ gs ++ ((h ∷ rs) ∷ hs) → (after : List Record) × (file_records file ≡ (header_in file ++ concat gs) ++ (h ∷ after))
unfolding concat
group-starts file s j gs h rs hs e =
    let d = decomposed file s j in
    (rs ++ (concat hs ++ (d.trailer ∷ [])), d.records ∙ rw (e, concat-append gs ((h ∷ rs) ∷ hs)) (simp append_assoc))

receiver-met : (file : Bytes) (s : Summary) → judge file ≡ fine s → (gs : List (List Record)) (h : Record) (rs : List Record) (hs : List (List Record))
    → groups_in file ≡ gs ++ ((h ∷ rs) ∷ hs) → T (heads group_header h) → ReceiverMet file (size_of_all (header_in file ++ concat gs)) (h ∷ rs)
receiver-met file s j gs h rs hs e is-02 =
    let (after, starts) = group-starts file s j gs h rs hs e in
    let x = fields-met file s j (header_in file ++ concat gs) h after starts in
    record { fields = x.fields; met = x.met; same = receiver-of h rs x.code x.fields (one_code x.code group_header h x.is_code is-02) x.taken }

-- the receiver that is handed out at a group's place, after the header and the groups before it, is the one that split compares
pub receiver-handed : (file : Bytes) (s : Summary) → judge file ≡ fine s → (before : List (List Record)) (g : List Record) (after : List (List Record))
    → groups_in file ≡ before ++ (g ∷ after) → ReceiverMet file (size_of_all (header_in file ++ concat before)) g
receiver-handed file s j before g after e =
    let i = (all_right IsGroup before (g ∷ after) (subst (All IsGroup) e (is-file file s j).groups)).0.enclosed in
    subst (ReceiverMet file (size_of_all (header_in file ++ concat before))) (sym i.whole)
    (receiver-met file s j before i.header _ after (e ∙ ap (λ (x : List Record). before ++ (x ∷ after)) i.whole) i.is-header)

-- ---- amounts

-- of fields the amounts are those that the reader adds
same-amounts : (fs : List Field) → amounts_handed fs ≡ sum_of fs
unfolding amounts_handed amount_handed sum_of amount_of
same-amounts [] = refl
same-amounts (f ∷ fs) = ap (λ (a : Sum). amount_of f ⊕ a) (same-amounts fs)

record-amounts : (c : Code) (r : Record) (fs : List Field) → T (heads c r) → walk_record c r ≡ fine fs → amounts_handed fs ≡ (summary_of r).sum
unfolding of_record adding fields_in
record-amounts c r fs h w =
    same-amounts fs
    ∙ ap (λ (o : Outcome (List Field)). sum_of (or_else o [])) (sym w)
    ∙ ap (λ (x : Summary). x.sum) (sym (summary-as c r h))

amounts-step : (file : Bytes) (p n : ℕ) (r : Record) (q : ℕ) (rest : Sum) → FieldsMet file p r → RecordMet file p r → p + record_size r ≡ q
    → amounts_from file q n ≡ rest → amounts_from file p (suc n) ≡ (summary_of r).sum ⊕ rest
unfolding amounts_from record_answer
amounts-step file p n r q rest x y e ih = rw (x.met, y.met, e, ih, record-amounts x.code r x.fields x.is_code x.taken)

amounts-of : (file : Bytes) (s : Summary) → judge file ≡ fine s → (before rs : List Record) → file_records file ≡ before ++ rs
    → amounts_from file (size_of_all before) (length rs) ≡ (summary_of_all rs).sum
unfolding amounts_from summary_of_all ◌⊞◌
amounts-of file s h before [] e = refl
amounts-of file s h before (r ∷ rs) e =
    amounts-step file (size_of_all before) (length rs) r (size_of_all (before ++ (r ∷ []))) (summary_of_all rs).sum (fields-met file s h before r rs e)
    (records-met file s h before r rs e) (sym (size-next before r))
    (amounts-of file s h (before ++ (r ∷ [])) rs (e ∙ sym (append_assoc before (r ∷ []) rs)))

-- the amounts handed out, record by record from place 0 on, add up to the file's total
pub amounts-add-up : (file : Bytes) (s : Summary) → judge file ≡ fine s → amounts_from file 0 (length (file_records file)) ≡ s.sum
unfolding size_of_all
amounts-add-up file s h = amounts-of file s h [] (file_records file) refl ∙ ap (λ (x : Summary). x.sum) (sym (summary-is file s h))
