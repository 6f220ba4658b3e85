-- One turn of the search for a part of an envelope, at the places that the code reaches. Assumes nothing.
use Prim.Native.Nat.{ℕ, suc, ◌+◌, ◌-◌, ◌≤◌, ◌<◌}
use native.Mathlib.Omega.{arith}
use mathlib.Core.Path.{◌≡◌, refl, sym, ap, subst, ◌∙◌}
use mathlib.Core.Bool.{Bool, true, false, ◌||◌}
use mathlib.Core.List.{List, [], ◌∷◌, ◌++◌, append_assoc}
use lib.Dec.{T}
use lib.ListN.{length, take, drop}
use lib.Seq.{drop-drop}
use Rattle.rules.specs.Bytes.{Bytes, same_bytes}
use Rattle.rules.specs.Outcome.{Outcome, not_refused}
use Rattle.rules.specs.Lines.{lines_of, Code, file_header, group_header, account_header, detail, account_trailer, group_trailer, file_trailer, continuation, code_bytes, Record, record_size, record_bytes, file_records}
use Rattle.rules.specs.Parts.{heads, cut_at, Placed, Parts, part_from, part_in, part_bytes, size_of_all}
use Rattle.rules.specs.Combine.{concat}
use Rattle.rules.specs.Answers.{part_answer}
use Rattle.rules.proofs.Tests.{is_true}
use Rattle.read_lines.specs.LineLengths.{first_record}
use Rattle.read_lines.proofs.LineLengthLaws.{first_of, line-some}
use Rattle.read_lines.proofs.OneRecord.{first-size}
use Rattle.find_lines.specs.LinesOfCode.{bytes_before}
use Rattle.laws.specs.LawWords.{All, Begins, IsRecord}
use Rattle.laws.proofs.Lists.{all_left, all_right, concat-append}
use Rattle.laws.proofs.Codes.{of-own, not-of}
use Rattle.laws.proofs.PartSlices.{size-length}
use Rattle.join_groups.proofs.GroupRecords.{first-is, heads-front, records-drop, size-joined, before-past, before-first, passed-records, lines_are}
use Rattle.std.specs.Prelude.{Err}
use Rattle.base_refusals.specs.declared.Refusal.{Refusal}
use Rattle.part_groups.specs.PartMeaning.{part_meant}
use Rattle.part_groups.specs.PartsEnclosed.{PartEnds, EndsAt, Apart, Ahead, Envelope}

-- ---- any bytes

coded : (c : Code) (xs : Bytes) → same_bytes (code_bytes c) (take 3 xs) ≡ true → 0 < length xs
unfolding same_bytes
coded c (b ∷ bs) h = omega arith
coded file_header [] h = let z : ◌≡◌ {A = ℕ} 0 1 = cc in absurd (omega arith)
coded group_header [] h = let z : ◌≡◌ {A = ℕ} 0 1 = cc in absurd (omega arith)
coded account_header [] h = let z : ◌≡◌ {A = ℕ} 0 1 = cc in absurd (omega arith)
coded detail [] h = let z : ◌≡◌ {A = ℕ} 0 1 = cc in absurd (omega arith)
coded account_trailer [] h = let z : ◌≡◌ {A = ℕ} 0 1 = cc in absurd (omega arith)
coded group_trailer [] h = let z : ◌≡◌ {A = ℕ} 0 1 = cc in absurd (omega arith)
coded file_trailer [] h = let z : ◌≡◌ {A = ℕ} 0 1 = cc in absurd (omega arith)
coded continuation [] h = let z : ◌≡◌ {A = ℕ} 0 1 = cc in absurd (omega arith)

some-record : (xs : Bytes) → 0 < length xs → 0 < record_size (first_record (lines_of xs))
unfolding first_record record_size
some-record xs h = rw (first_of xs h) (omega (arith, first-size xs, line-some xs h))

-- a turn's places: the record at `at` ends at m, the part at e
pub spans : (c d : Code) (s : Bytes) (at m e : ℕ) → same_bytes (code_bytes c) (take 3 (drop at s)) ≡ true → at ≤ length s
    → (m ≡ at + record_size (first_record (lines_of (drop at s)))) × (m ≤ length s + (at - length s))
    → (e ≡ m + bytes_before c d (lines_of (drop m s))) × (e ≤ length s + (m - length s))
    → (at < e) × (e ≤ length s)
spans c d s at m e begun within (p, p') (q, q') = let z = some-record (drop at s) (coded c (drop at s) begun) in (omega arith, omega arith)

-- ---- an envelope

-- the parts left from `at` on, of which the one sought has number left
pub record Left (c d : Code) (others : List Code) (s : Bytes) (sought : Outcome Placed) (at left : ℕ) : Type 0 where
  pub parts : List (List Record)
  pub ahead : Ahead c d others parts (file_records (drop at s))
  pub same : sought ≡ part_from at parts left

-- the first part
pub started : (c d : Code) (s : Bytes) (n left at : ℕ) → left ≡ n → at ≡ 0 + record_size (first_record (lines_of (drop 0 s))) → (e : Envelope c d (file_records s))
    → Left c d e.others s (part_in 0 (cut_at c d (file_records s)) n) at left
unfolding part_in size_of_all
started c d s n left at same p e =
    let size : at ≡ record_size e.first + 0 = p ∙ ap (λ (r : Record). 0 + record_size r) (first-is s e.first e.rest e.whole) ∙ omega arith in
    let place : 0 + (record_size e.first + 0) ≡ at = omega (arith, size) in
    record {
      parts = e.parts;
      ahead = subst (Ahead c d e.others e.parts) (sym (ap (λ (k : ℕ). file_records (drop k s)) size ∙ records-drop (e.first ∷ []) e.rest s e.whole)) e.ahead;
      same =
          ap (λ (x : Parts). part_from (0 + size_of_all x.waiting) x.parts n) e.cut
          ∙ ap (λ (k : ℕ). part_from k e.parts n) place
          ∙ ap (λ (k : ℕ). part_from at e.parts k) (sym same);
    }

module _ (c d : Code) (others : List Code) (a : Apart c d others) where
  -- where parts are over, or the next one begins, a line of code c or d stands
  next-code : (ps : List (List Record)) (last : Record) → All (Begins c others) ps → T (heads d last) → bytes_before c d (concat (concat ps ++ (last ∷ []))) ≡ 0
  unfolding concat
  next-code [] last o h = before-first c d last [] (by_last (heads c last))
    where
      by_last : (t : Bool) → (t || heads d last) ≡ true
      by_last true = refl
      by_last false = is_true (heads d last) h
  next-code ([] ∷ ps) last o h = absurd o.0
  next-code ((r ∷ rs) ∷ ps) last o h = before-first c d r (concat ((rs ++ concat ps) ++ (last ∷ []))) (rw (is_true (heads c r) o.0.0))

  -- the part in front of bytes, and what is after it
  module _ (xs : Bytes) (r : Record) (rs : List Record) (ps : List (List Record)) (h : Ahead c d others ((r ∷ rs) ∷ ps) (file_records xs)) where
    abbrev after : List Record
    after = concat ps ++ (h.last ∷ [])

    reads : file_records xs ≡ (r ∷ rs) ++ after
    unfolding concat
    reads = h.whole ∙ append_assoc (r ∷ rs) (concat ps) (h.last ∷ [])

    first-size-is : record_size (first_record (lines_of xs)) ≡ record_size r
    first-size-is = ap record_size (first-is xs r (rs ++ after) reads)

    from_first : file_records (drop (record_size r) xs) ≡ rs ++ after
    unfolding size_of_all
    from_first = let z : record_size r ≡ record_size r + 0 = omega arith in ap (λ (k : ℕ). file_records (drop k xs)) z ∙ records-drop (r ∷ []) (rs ++ after) xs reads

    rest-size : bytes_before c d (lines_of (drop (record_size r) xs)) ≡ size_of_all rs
    unfolding concat
    rest-size =
        ap (bytes_before c d) (lines_are (drop (record_size r) xs) (rs ++ after) from_first ∙ concat-append rs after)
        ∙ before-past c d (concat rs) (concat after)
        (passed-records c d others a.c-else a.d-else a.c-88 a.d-88 rs h.opens.0.1 (all_left IsRecord rs (concat ps) h.are-records.1))
        ∙ omega (arith, size-joined rs, next-code ps h.last h.opens.1 h.is_last)

    after-ahead : Ahead c d others ps (file_records (drop (size_of_all (r ∷ rs)) xs))
    unfolding concat
    after-ahead =
        record {
          last = h.last;
          whole = records-drop (r ∷ rs) after xs reads;
          is_last = h.is_last;
          opens = h.opens.1;
          are-records = all_right IsRecord (r ∷ rs) (concat ps) h.are-records;
        }

    headed : same_bytes (code_bytes c) (take 3 xs) ≡ true
    headed = sym (heads-front xs r (rs ++ after) reads c) ∙ is_true (heads c r) h.opens.0.0

  -- no part is left
  over : (xs : Bytes) → Ahead c d others [] (file_records xs) → same_bytes (code_bytes c) (take 3 xs) ≡ false
  unfolding concat
  over xs h = sym (heads-front xs h.last [] h.whole c) ∙ not-of (d ∷ []) c h.last a.d-c (of-own d [] h.last h.is_last)

  -- a part stands at `at`, and ends at e
  module _ (s : Bytes) (at e : ℕ) (t : PartEnds c d s at e) where
    abbrev m : ℕ
    m = t.first_end

    record Turn (ps : List (List Record)) : Type 0 where
      part : List Record
      further : List (List Record)
      split : ps ≡ part ∷ further
      size : e ≡ at + size_of_all part
      ahead : Ahead c d others further (file_records (drop e s))

    turn-of : (r : Record) (rs : List Record) (ps : List (List Record)) → Ahead c d others ((r ∷ rs) ∷ ps) (file_records (drop at s)) → Turn ((r ∷ rs) ∷ ps)
    unfolding size_of_all
    turn-of r rs ps h =
        let xs = drop at s in
        let m-is : m ≡ at + record_size r = t.first ∙ ap (λ (k : ℕ). at + k) (first-size-is xs r rs ps h) in
        let from-m : drop m s ≡ drop (record_size r) xs = ap (λ (k : ℕ). drop k s) m-is ∙ sym (drop-drop (record_size r) at s) in
        let e-is : e ≡ at + (record_size r + size_of_all rs) = t.end ∙ ap (λ (ys : Bytes). m + bytes_before c d (lines_of ys)) from-m ∙ omega (arith, rest-size xs r rs ps h) in
        let from-e : drop (record_size r + size_of_all rs) xs ≡ drop e s = drop-drop (record_size r + size_of_all rs) at s ∙ ap (λ (k : ℕ). drop k s) (sym e-is) in
        record {
          part = r ∷ rs;
          further = ps;
          split = refl;
          size = e-is;
          ahead = subst (λ (ys : Bytes). Ahead c d others ps (file_records ys)) from-e (after-ahead xs r rs ps h);
        }

    turn : (ps : List (List Record)) → Ahead c d others ps (file_records (drop at s)) → Turn ps
    turn [] h = let z : false ≡ true = sym (over (drop at s) h) ∙ t.opens in let y : ◌≡◌ {A = ℕ} 0 1 = cc in absurd (omega arith)
    turn ([] ∷ ps) h = absurd h.opens.0
    turn ((r ∷ rs) ∷ ps) h = turn-of r rs ps h

    module _ (sought : Outcome Placed) where
      -- it is the one sought
      pub hit : (left : ℕ) → left ≡ 0 → Left c d others s sought at left → record { refusal = not_refused; start = at; len = e - at } ≡ part_answer sought
      unfolding part_answer part_from part_bytes
      hit left z l =
          let u = turn l.parts l.ahead in
          let is : sought ≡ part_from at (u.part ∷ u.further) 0 = l.same ∙ ap (λ (k : ℕ). part_from at l.parts k) z ∙ ap (λ (ps : List (List Record)). part_from at ps 0) u.split in
          let size : e - at ≡ length (record_bytes u.part) = omega (arith, u.size, size-length u.part) in
          rw (is, size)

      -- it is not, and the search goes on after it
      pub go : (left k : ℕ) → left ≡ suc k → Left c d others s sought at left → Left c d others s sought e k
      unfolding part_from
      go left k z l =
          let u = turn l.parts l.ahead in
          record {
            parts = u.further;
            ahead = u.ahead;
            same =
                l.same
                ∙ ap (λ (n : ℕ). part_from at l.parts n) z
                ∙ ap (λ (ps : List (List Record)). part_from at ps (suc k)) u.split
                ∙ ap (λ (n : ℕ). part_from n u.further k) (sym u.size);
          }

  -- where none stands there is none
  pub missed : (why : Refusal) (s : Bytes) (sought : Outcome Placed) (at left : ℕ) → EndsAt c d s at (Err why) → Left c d others s sought at left → part_meant (Err why) ≡ part_answer sought
  unfolding part_answer part_from part_bytes
  missed why s sought at left (none, is) l = by_parts l.parts l.ahead l.same
    where
      by_parts : (ps : List (List Record)) → Ahead c d others ps (file_records (drop at s)) → sought ≡ part_from at ps left → part_meant (Err why) ≡ part_answer sought
      by_parts [] h e = rw (e, is)
      by_parts ([] ∷ ps) h e = absurd h.opens.0
      by_parts ((r ∷ rs) ∷ ps) h e = let z : true ≡ false = sym (headed (drop at s) r rs ps h) ∙ none in let y : ◌≡◌ {A = ℕ} 0 1 = cc in absurd (omega arith)
