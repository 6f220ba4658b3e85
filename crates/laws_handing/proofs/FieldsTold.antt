-- Of a record that is met the walk takes at least one field, or it is refused by a number that isn't 0. So the number tells whether an answer on fields is refused. Assumes nothing.
use Prim.Native.Nat.{ℕ, suc, ◌+◌, ◌*◌, ◌≤◌}
use native.Mathlib.Omega.{arith}
use mathlib.Core.Path.{◌≡◌}
use mathlib.Core.Bool.{Bool, true, false, cond}
use mathlib.Core.List.{List, [], ◌∷◌, ◌++◌}
use mathlib.Core.Option.{Option, none, some}
use lib.Dec.{T, leb, leb→le, eqb}
use lib.ListN.{length, drop}
use Rattle.rules.specs.Bytes.{Bytes, comma, slash, between, trimmed}
use Rattle.rules.specs.Outcome.{Outcome, refused, fine, ◌>>=◌, ◌>>◌, check, or_refused, moved}
use Rattle.rules.specs.Lines.{Line, size_of, Code, code_of, Record, file_records}
use Rattle.rules.specs.Cells.{Mark, at_comma, at_slash, at_line_end, Cell, mark_place, lengthened, cells_from, cells_of, leading_blanks}
use Rattle.rules.specs.Grammar.{Kind, Judged, bad, good, and_then, take_next, next_kind, is_text, judged, fields_of, may_lack}
use Rattle.rules.specs.Records.{Field, Walk, walk_after, taken, past_slash, taken_to, walk_cells, walk_lines, walk_record}
use Rattle.rules.specs.Verdict.{coded}
use Rattle.rules.specs.HandedOut.{CodedRecord, first_coded, record_at, fields_at, fields_out, FieldsAnswer, fields_answer, fields_of_record}
use Rattle.rules.proofs.Tests.{and_left}
use Rattle.laws.proofs.FieldValues.{Says, judged-says}

-- refused by a number that isn't 0; or fine, and of size 1 or more
abbrev Sure : {A : Type 0} → (A → ℕ) → Outcome A → Type 0
Sure size (refused why) = 1 ≤ why.number
Sure size (fine a) = 1 ≤ size a

bind-sure : {A B : Type 0} (m : A → ℕ) (n : B → ℕ) (o : Outcome A) (f : A → Outcome B) → Sure m o → ((a : A) → 1 ≤ m a → Sure n (f a)) → Sure n (o >>= f)
bind-sure m n (refused why) f h k = h
bind-sure m n (fine a) f h k = k a h

checked-sure : {A : Type 0} (n : A → ℕ) (t : Bool) (k p : ℕ) (r : Outcome A) → 1 ≤ k → Sure n r → Sure n (check t k p >> r)
checked-sure n true k p r h s = s
checked-sure n false k p r h s = h

either-sure : {A : Type 0} (n : A → ℕ) (t : Bool) (o r : Outcome A) → Sure n o → Sure n r → Sure n (cond t o r)
either-sure n true o r h k = h
either-sure n false o r h k = k

moved-sure : {A : Type 0} (n : A → ℕ) (p : ℕ) (o : Outcome A) → Sure n o → Sure n (moved p o)
unfolding moved
moved-sure n p (refused why) h = h
moved-sure n p (fine a) h = h

-- ---- a field

abbrev size : Walk → ℕ
size w = length w.fields

one_more : (fs : List Field) (f : Field) → 1 ≤ length (fs ++ (f ∷ []))
one_more [] f = omega arith
one_more (g ∷ fs) f = omega arith

after-sure : (j : Judged) (k : Kind) (ks : List Kind) (f : Field) (w : Walk) → Says k f.bytes j → Sure size (walk_after (and_then j ks) f w)
unfolding walk_after and_then
after-sure (bad n) k ks f w h =
    let low = leb→le 7 n (and_left (leb 7 n) (leb n 9) h) in
    omega arith
after-sure (good new) k ks f w h = one_more w.fields f

next-sure : (ks : List Kind) (f : Field) (w : Walk) → Sure size (walk_after (take_next ks f.bytes) f w)
unfolding walk_after take_next
next-sure [] f w = omega arith
next-sure (k ∷ ks) f w = after-sure (judged k f.bytes) k ks f w (judged-says k f.bytes)

taken-sure : (p : ℕ) (bs : Bytes) (w : Walk) → Sure size (taken p bs w)
unfolding taken
taken-sure p bs w = next-sure w.wanted (record { kind = next_kind w.wanted; place = p; bytes = bs }) w

to-sure : (m : Mark) (c : Cell) (w : Walk) → Sure size (taken_to m c w)
unfolding taken_to past_slash
to-sure at_line_end c w = omega arith
to-sure at_comma c w = taken-sure c.place c.bytes w
to-sure (at_slash after) c w =
    bind-sure size size (taken c.place c.bytes w) _ (taken-sure c.place c.bytes w) (λ next h.
    checked-sure size (eqb (leading_blanks after) (length after)) 7 (mark_place c + 1 + leading_blanks after) _ (omega arith) h)

-- ---- the cells of a line, of which there is always one

-- there is a cell, or a field was taken before
abbrev Fed : List Cell → Walk → Type 0
Fed [] w = 1 ≤ size w
Fed (c ∷ cs) w = Unit {0}

fed : (cs : List Cell) (w : Walk) → 1 ≤ size w → Fed cs w
fed [] w h = h
fed (c ∷ cs) w h = tt

lengthened-fed : (p b : ℕ) (cs : List Cell) (w : Walk) → Fed cs w → Fed (lengthened p b cs) w
unfolding lengthened
lengthened-fed p b [] w h = h
lengthened-fed p b (c ∷ cs) w h = tt

either-fed : (t : Bool) (cs ds : List Cell) (w : Walk) → Fed cs w → Fed ds w → Fed (cond t cs ds) w
either-fed true cs ds w h k = h
either-fed false cs ds w h k = k

cells-fed : (p : ℕ) (bs : Bytes) (w : Walk) → Fed (cells_from p bs) w
unfolding cells_from
cells-fed p [] w = tt
cells-fed p (b ∷ bs) w =
    either-fed (eqb b comma) _ _ w tt (either-fed (eqb b slash) _ _ w tt (lengthened-fed p b (cells_from (suc p) bs) w (cells-fed (suc p) bs w)))

cells-sure : (cs : List Cell) (w : Walk) → Fed cs w → Sure size (walk_cells w cs)
unfolding walk_cells
cells-sure [] w h = h
cells-sure (c ∷ cs) w h =
    either-sure size (is_text (next_kind w.wanted)) (taken c.place (trimmed c.rest) w) (taken_to c.mark c w >>= λ next. walk_cells next cs)
    (taken-sure c.place (trimmed c.rest) w) (bind-sure size size (taken_to c.mark c w) _ (to-sure c.mark c w) (λ next m. cells-sure cs next (fed cs next m)))

line-sure : (p : ℕ) (l : Line) (w : Walk) → Sure size (walk_cells w (cells_of p l))
unfolding cells_of
line-sure p l w = cells-sure (cells_from (p + 3) (drop 3 l.body)) w (cells-fed (p + 3) (drop 3 l.body) w)

-- ---- a record, of which no one is without a line

lines-sure : (p : ℕ) (ls : List Line) (w : Walk) → 1 ≤ size w → Sure size (walk_lines p w ls)
unfolding walk_lines
lines-sure p [] w h = h
lines-sure p (l ∷ ls) w h = bind-sure size size (walk_cells w (cells_of p l)) _ (line-sure p l w) (λ next m. lines-sure (p + size_of l) ls next m)

walk-sure : (c : Code) (r : Record) → 1 ≤ length r → Sure length (walk_record c r)
unfolding walk_record walk_lines
walk-sure c [] h = absurd (omega arith)
walk-sure c (l ∷ ls) h =
    let first : Walk = record { wanted = fields_of c; fields = []; last_slash = 0 } in
    bind-sure size length (walk_lines 0 first (l ∷ ls)) _
    (bind-sure size size (walk_cells first (cells_of 0 l)) _ (line-sure 0 l first) (λ next m. lines-sure (0 + size_of l) ls next m))
    (λ w m. checked-sure length (may_lack w.wanted) 8 w.last_slash _ (omega arith) m)

abbrev lines-of : CodedRecord → ℕ
lines-of x = length x.lines

coded-sure : (o : Option Code) (p : ℕ) (l : Line) (ls : List Line) → Sure lines-of (or_refused o 5 p >>= λ c. fine (record { code = c; lines = l ∷ ls }))
coded-sure none p l ls = omega arith
coded-sure (some c) p l ls = omega arith

first-sure : (p : ℕ) (rs : List Record) → Sure lines-of (first_coded p rs)
unfolding first_coded coded
first-sure p [] = omega arith
first-sure p ([] ∷ rs) = omega arith
first-sure p ((l ∷ ls) ∷ rs) = coded-sure (code_of l) p l ls

-- ---- the answer

at-sure : (file : Bytes) (start : ℕ) → Sure length (fields_at file start)
unfolding fields_at record_at
at-sure file start =
    bind-sure lines-of length (first_coded start (file_records (drop start file))) _ (first-sure start (file_records (drop start file))) (λ x m.
    moved-sure length start (walk_record x.code x.lines) (walk-sure x.code x.lines m))

out-sure : (file : Bytes) (start room : ℕ) → Sure length (fields_out file start room)
unfolding fields_out
out-sure file start room =
    bind-sure length length (fields_at file start) _ (at-sure file start) (λ fs m. checked-sure length (leb (3 * length fs) room) 15 0 (fine fs) (omega arith) m)

answer-told : (start : ℕ) (o : Outcome (List Field)) (before : List ℕ) → Sure length o
    → (fields_answer start o before).refusal.number ≡ 0 → 1 ≤ (fields_answer start o before).count
unfolding fields_answer
answer-told start (refused why) before h e = absurd (omega arith)
answer-told start (fine fs) before h e = h

-- an answer on fields whose number is 0 has at least one field: none is refused by 0, and no record that is met is without a field
pub fields_told : (file : Bytes) (start : ℕ) (before : List ℕ) → (fields_of_record file start before).refusal.number ≡ 0 → 1 ≤ (fields_of_record file start before).count
unfolding fields_of_record
fields_told file start before = answer-told start (fields_out file start (length before)) before (out-sure file start (length before))
