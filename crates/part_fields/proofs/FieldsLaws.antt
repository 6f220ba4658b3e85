-- What the call answers: of a walk that was refused, of fields that find no room, of fields that are put into the slice; and of a record that is found. Assumes nothing.
use Prim.Native.Nat.{ℕ, ◌+◌, ◌*◌, ◌≤◌, ◌<◌}
use native.Mathlib.Omega.{arith}
use mathlib.Core.Path.{◌≡◌, refl, sym, ap, ◌∙◌}
use mathlib.Core.Bool.{Bool, true, false}
use mathlib.Core.List.{List, ◌++◌}
use mathlib.Core.Option.{none, some}
use lib.Dec.{leb}
use lib.ListN.{length, take, drop, length-drop, drop_of_length-le}
use lib.Seq.{take_at}
use Rattle.rules.specs.Bytes.{Bytes}
use Rattle.rules.specs.Outcome.{Refusal, not_refused, Outcome, refused, fine, ◌>>◌, check, moved}
use Rattle.rules.specs.Lines.{Code, code_of, lines_of, records_of, file_records}
use Rattle.rules.specs.Records.{Field}
use Rattle.rules.specs.Verdict.{coded}
use Rattle.rules.specs.HandedOut.{first_coded, record_at, fields_at, fields_out, handed, FieldsAnswer, fields_answer, fields_of_record}
use Rattle.read_lines.specs.LineLengths.{first_line, first_record}
use Rattle.find_next.specs.FieldTrace.{Trace, collected}
use Rattle.find_next.proofs.TraceAgrees.{collected-is}
use Rattle.find_next.proofs.OwnLines.{first-own}
use Rattle.find_walk.specs.WalkEnds.{stopped, over_after, met_at, walk_end, numbers_passed, put_threes, trace_of_record}
use Rattle.part_records.proofs.FoundLaws.{by_code}
use Rattle.base_numerals.specs.PutBytes.{Put}
use Rattle.part_fields.specs.FieldAnswers.{out_from}
use Rattle.part_fields.proofs.NumberLaws.{end_of, end_is, numbers-are, handed-size, put_all}

-- ---- what the walk's end says of its fields

-- it is refused, and so is the call
refused-by : (start : ℕ) (o : Outcome (List Field)) (why : Refusal) (before : List ℕ) → stopped why ≡ end_of (moved start o)
    → fields_answer start (out_from start o (length before)) before ≡ record { refusal = why; count = 0; out = before }
unfolding moved out_from fields_answer
refused-by start (refused w) why before e = ap (λ (x : Refusal). record { refusal = x; count = 0; out = before }) cc
refused-by start (fine fs) why before e = let z : ◌≡◌ {A = ℕ} 0 1 = cc in absurd (omega arith)

-- it has fields, so many
record Counts (o : Outcome (List Field)) (n : ℕ) : Type 0 where
  fields : List Field
  fine-fields : o ≡ fine fields
  count : length fields ≡ n

counts : (start : ℕ) (o : Outcome (List Field)) (n : ℕ) → over_after n ≡ end_of (moved start o) → Counts o n
unfolding moved
counts start (refused w) n e = let z : ◌≡◌ {A = ℕ} 0 1 = cc in absurd (omega arith)
counts start (fine fs) n e = record { fields = fs; fine-fields = refl; count = cc }

never : (start p : ℕ) (bs : Bytes) (o : Outcome (List Field)) → met_at p bs ≡ end_of (moved start o) → ⊥
unfolding moved
never start p bs (refused w) e = let z : ◌≡◌ {A = ℕ} 0 1 = cc in absurd (omega arith)
never start p bs (fine fs) e = let z : ◌≡◌ {A = ℕ} 0 1 = cc in absurd (omega arith)

module _ (start : ℕ) (t : Trace) (before : List ℕ) where
  abbrev answer : FieldsAnswer
  answer = fields_answer start (out_from start (collected t) (length before)) before

  pub refused-gives : (why : Refusal) → stopped why ≡ walk_end 0 start t → record { refusal = why; count = 0; out = before } ≡ answer
  refused-gives why e = sym (refused-by start (collected t) why before (e ∙ end_is start t))

  pub met-never : (p : ℕ) (bs : Bytes) → met_at p bs ≡ walk_end 0 start t → ⊥
  met-never p bs e = never start p bs (collected t) (e ∙ end_is start t)

  module _ (n : ℕ) (e : over_after n ≡ walk_end 0 start t) where
    its : Counts (collected t) n
    its = counts start (collected t) n (e ∙ end_is start t)

    numbers : numbers_passed 0 start t ≡ handed start its.fields
    numbers = numbers-are start t its.fields its.fine-fields

    pub numbers-size : length (numbers_passed 0 start t) ≡ 3 * n
    numbers-size = ap length numbers ∙ handed-size start its.fields ∙ ap (λ (k : ℕ). 3 * k) its.count

    -- in a slice in which they find room
    pub all-put : (out : List ℕ) → 3 * n ≤ length out → put_threes (numbers_passed 0 start t) out ≡ numbers_passed 0 start t ++ drop (3 * n) out
    all-put out h =
        let fs = its.fields in
        let room : 3 * length fs ≤ length out = omega (arith, its.count) in
        ap (λ (ns : List ℕ). put_threes ns out) numbers
        ∙ put_all start fs out room
        ∙ ap (λ (ns : List ℕ). ns ++ drop (3 * length fs) out) (sym numbers)
        ∙ ap (λ (k : ℕ). numbers_passed 0 start t ++ drop (3 * k) out) its.count

    by-room : (b : Bool) → leb (3 * n) (length before) ≡ b
        → fields_answer start (check b 15 0 >> fine its.fields) before ≡ answer
    unfolding out_from moved
    by-room b r = sym (rw (its.fine-fields, its.count, r))

    pub no-room-gives : leb (3 * n) (length before) ≡ false → record { refusal = record { number = 15; place = 0 }; count = 0; out = before } ≡ answer
    unfolding fields_answer
    no-room-gives r = by-room false r

    pub gives : (after : List ℕ) → leb (3 * n) (length before) ≡ true → after ≡ numbers_passed 0 start t ++ drop (3 * n) before
        → record { refusal = not_refused; count = n; out = after } ≡ answer
    unfolding fields_answer
    gives after r w =
        let fs = its.fields in
        let is : after ≡ handed start fs ++ drop (3 * length fs) before =
        w ∙ ap (λ (ns : List ℕ). ns ++ drop (3 * n) before) numbers ∙ ap (λ (k : ℕ). handed start fs ++ drop (3 * k) before) (sym its.count) in
        ap (λ (k : ℕ). record { refusal = not_refused; count = k; out = after }) (sym its.count)
        ∙ ap (λ (ns : List ℕ). record { refusal = not_refused; count = length fs; out = ns }) is
        ∙ by-room true r

-- numbers that were held, copied to the front of a slice
pub copied : (ns rest before after : List ℕ) (n r : ℕ) → length ns ≡ n → Put (take n (ns ++ rest)) before r after → leb n (length before) ≡ true → after ≡ ns ++ drop n before
copied ns rest before after n r size put room =
    let front : take n (ns ++ rest) ≡ ns = take_at ns rest n size in
    put.bytes ∙ rw (front, size, room)

-- ---- a record that is found, or not

module _ (file : Bytes) (start : ℕ) (before : List ℕ) where
  refused-found : (why : Refusal) → record_at file start ≡ refused why → record { refusal = why; count = 0; out = before } ≡ fields_of_record file start before
  unfolding fields_of_record fields_answer fields_out fields_at
  refused-found why e = sym (rw e)

  -- past the end
  pub past-gives : length file ≤ start → record { refusal = record { number = 17; place = 0 }; count = 0; out = before } ≡ fields_of_record file start before
  unfolding record_at first_coded file_records records_of lines_of
  past-gives h = refused-found _ (rw (drop_of_length-le file {i = start} h))

  module _ (h : start < length file) where
    -- the line has no code
    pub uncoded-gives : none ≡ code_of (first_line (drop start file)) → record { refusal = record { number = 5; place = start }; count = 0; out = before } ≡ fields_of_record file start before
    unfolding coded
    uncoded-gives e = refused-found _ (by_code file start h ∙ rw (← e))

    -- it has this one
    pub found-gives : (c : Code) → some c ≡ code_of (first_line (drop start file))
        → fields_answer start (out_from start (collected (trace_of_record (drop start file) 1 c)) (length before)) before ≡ fields_of_record file start before
    unfolding fields_of_record fields_out fields_at out_from coded
    found-gives c e =
        let own = first-own (drop start file) (omega (arith, length-drop start file)) in
        sym (rw (by_code file start h, ← e, collected-is c (first_record (lines_of (drop start file))), own))
