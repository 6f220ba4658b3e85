-- The numbers by which the reader refuses: 1 to 13, so never 0, and never 14. Assumes nothing.
use Prim.Native.Nat.{ℕ, suc, ◌+◌, ◌≤◌}
use mathlib.Core.Path.{◌≡◌, refl, sym, subst}
use mathlib.Core.Bool.{Bool, true, false, cond, not}
use mathlib.Core.List.{List, [], ◌∷◌}
use mathlib.Core.Option.{Option, none, some}
use native.Mathlib.Omega.{arith}
use lib.Dec.{T, leb, leb→le, eqb, le→leb}
use lib.ListN.{length}
use Rattle.rules.specs.Bytes.{Bytes, is_empty, between, allowed, trimmed}
use Rattle.rules.specs.Outcome.{Outcome, refused, fine, ◌>>=◌, ◌>>◌, check, or_refused, moved}
use Rattle.rules.specs.Lines.{Line, size_of, Code, file_header, group_header, account_header, detail, account_trailer, group_trailer, file_trailer, continuation, same_code, code_of, Record, record_size, file_records}
use Rattle.rules.specs.Cells.{Mark, at_comma, at_slash, at_line_end, Cell, mark_place, cells_of, leading_blanks}
use Rattle.rules.specs.Numbers.{number, magnitudes, within_most, equals}
use Rattle.rules.specs.Amounts.{amount_in, amount_adds}
use Rattle.rules.specs.Limits.{most, longest_file}
use Rattle.rules.specs.Grammar.{Kind, Judged, bad, good, and_then, take_next, next_kind, is_text, total, count, records, judged, fields_of, may_lack}
use Rattle.rules.specs.Records.{Field, Walk, walk_after, taken, past_slash, taken_to, walk_cells, walk_lines, walk_record, the}
use Rattle.rules.specs.Totals.{Summary, no_summary, ◌⊞◌, amount_of, sum_of, adding, of_record, bounded_from, right_total, right_count, right_records, sum_within, balanced}
use Rattle.rules.specs.Order.{among, ended, group_open}
use Rattle.rules.specs.Verdict.{State, start, not_longer, all_allowed, coded, good_line, good_lines, none_longer, in_order, limit_after, own_lines, Reading, read_record, state_after, settled, step, run, judge}
use Rattle.rules.proofs.Tests.{both, and_left, and_right, is_true}
use Rattle.rules.proofs.Binds.{moved-fine}
use Rattle.rules.proofs.RunLaws.{within}
use Rattle.rules.proofs.Accepted.{stepped}
use Rattle.laws.proofs.FieldValues.{Says, judged-says}
use Rattle.laws.proofs.ReaderNumbers.{last_number}
use Rattle.laws.proofs.RecordsTaken.{bounded-within}

-- where refused, then by a number that passes the test
abbrev pub By : {A : Type 0} → (ℕ → Bool) → Outcome A → Type 0
By test (refused why) = T (test why.number)
By test (fine a) = Unit {0}

module _ (test : ℕ → Bool) where
  pub bind-by : {A B : Type 0} (o : Outcome A) (f : A → Outcome B) → By test o → ((a : A) → o ≡ fine a → By test (f a)) → By test (o >>= f)
  bind-by (refused why) f h k = h
  bind-by (fine a) f h k = k a refl

  pub then_by : {A B : Type 0} (o : Outcome A) (r : Outcome B) → By test o → By test r → By test (o >> r)
  then_by o r h k = bind-by o (λ a. r) h (λ a e. k)

  pub check-by : (t : Bool) (n p : ℕ) → T (test n) → By test (check t n p)
  check-by true n p h = tt
  check-by false n p h = h

  pub checked-by : {A : Type 0} (t : Bool) (n p : ℕ) (r : Outcome A) → T (test n) → By test r → By test (check t n p >> r)
  checked-by t n p r h k = then_by (check t n p) r (check-by t n p h) k

  or-by : {A : Type 0} (o : Option A) (n p : ℕ) → T (test n) → By test (or_refused o n p)
  or-by none n p h = h
  or-by (some a) n p h = tt

  moved_by : {A : Type 0} (p : ℕ) (o : Outcome A) → By test o → By test (moved p o)
  unfolding moved
  moved_by p (refused why) h = h
  moved_by p (fine a) h = tt

  either-by : {A : Type 0} (t : Bool) (o r : Outcome A) → By test o → By test r → By test (cond t o r)
  either-by true o r h k = h
  either-by false o r h k = k

-- the numbers that the reader gives
abbrev pub by_reader : ℕ → Bool
by_reader n = between 1 last_number n

abbrev ByReader : {A : Type 0} → Outcome A → Type 0
ByReader o = By by_reader o

-- ---- the walk: 7, 8, 9

seven-to-nine : (n : ℕ) → T (between 7 9 n) → T (by_reader n)
seven-to-nine n h =
    let lo = leb→le 7 n (and_left (leb 7 n) (leb n 9) h) in
    let hi = leb→le n 9 (and_right (leb 7 n) (leb n 9) h) in
    both (leb 1 n) (leb n last_number) (le→leb 1 n (omega arith)) (le→leb n last_number (omega arith))

after-by : (j : Judged) (k : Kind) (ks : List Kind) (f : Field) (w : Walk) → Says k f.bytes j → ByReader (walk_after (and_then j ks) f w)
unfolding walk_after and_then
after-by (bad n) k ks f w h = seven-to-nine n h
after-by (good new) k ks f w h = tt

next-by : (ks : List Kind) (f : Field) (w : Walk) → ByReader (walk_after (take_next ks f.bytes) f w)
unfolding walk_after take_next
next-by [] f w = tt
next-by (k ∷ ks) f w = after-by (judged k f.bytes) k ks f w (judged-says k f.bytes)

taken-by : (p : ℕ) (bs : Bytes) (w : Walk) → ByReader (taken p bs w)
unfolding taken
taken-by p bs w = next-by w.wanted (record { kind = next_kind w.wanted; place = p; bytes = bs }) w

to-by : (m : Mark) (c : Cell) (w : Walk) → ByReader (taken_to m c w)
unfolding taken_to past_slash
to-by at_line_end c w = tt
to-by at_comma c w = taken-by c.place c.bytes w
to-by (at_slash after) c w =
    bind-by by_reader (taken c.place c.bytes w) _ (taken-by c.place c.bytes w) (λ next e.
    checked-by by_reader (eqb (leading_blanks after) (length after)) 7 (mark_place c + 1 + leading_blanks after) _ tt tt)

cells-by : (cs : List Cell) (w : Walk) → ByReader (walk_cells w cs)
unfolding walk_cells
cells-by [] w = tt
cells-by (c ∷ cs) w =
    either-by by_reader (is_text (next_kind w.wanted)) (taken c.place (trimmed c.rest) w) (taken_to c.mark c w >>= λ next. walk_cells next cs)
    (taken-by c.place (trimmed c.rest) w) (bind-by by_reader (taken_to c.mark c w) _ (to-by c.mark c w) (λ next e. cells-by cs next))

lines-by : (p : ℕ) (ls : List Line) (w : Walk) → ByReader (walk_lines p w ls)
unfolding walk_lines
lines-by p [] w = tt
lines-by p (l ∷ ls) w = bind-by by_reader (walk_cells w (cells_of p l)) _ (cells-by (cells_of p l) w) (λ next e. lines-by (p + size_of l) ls next)

walk-by : (c : Code) (r : Record) → ByReader (walk_record c r)
unfolding walk_record
walk-by c r =
    let first : Walk = record { wanted = fields_of c; fields = []; last_slash = 0 } in
    bind-by by_reader (walk_lines 0 first r) _ (lines-by 0 r first) (λ w e.
    checked-by by_reader (may_lack w.wanted) 8 w.last_slash _ tt tt)

-- ---- a record's lines: 3, 4, 5; its order: 6

allowed-by : (p : ℕ) (bs : Bytes) → ByReader (all_allowed p bs)
unfolding all_allowed
allowed-by p [] = tt
allowed-by p (b ∷ bs) = checked-by by_reader (allowed b) 4 p _ tt (allowed-by (suc p) bs)

longer-by : (p limit : ℕ) (l : Line) → ByReader (not_longer p limit l)
unfolding not_longer
longer-by p limit l = check-by by_reader (leb (length l.body) limit) 3 (p + limit) tt

line-by : (p limit : ℕ) (l : Line) → ByReader (good_line p limit l)
unfolding good_line coded
line-by p limit l =
    then_by by_reader (not_longer p limit l) _ (longer-by p limit l) (then_by by_reader (all_allowed p l.body) _ (allowed-by p l.body) (or-by by_reader (code_of l) 5 p tt))

good-by : (p limit : ℕ) (r : Record) → ByReader (good_lines p limit r)
unfolding good_lines
good-by p limit [] = tt
good-by p limit (l ∷ ls) = bind-by by_reader (good_line p limit l) _ (line-by p limit l) (λ c e. good-by (p + size_of l) limit ls)

none-by : (p limit : ℕ) (r : Record) → ByReader (none_longer p limit r)
unfolding none_longer
none-by p limit [] = tt
none-by p limit (l ∷ ls) = then_by by_reader (not_longer p limit l) _ (longer-by p limit l) (none-by (p + size_of l) limit ls)

own-by : (c : Code) (limit : ℕ) (r : Record) → ByReader (own_lines c limit r)
unfolding own_lines
own-by c limit r = either-by by_reader (same_code c file_header) (none_longer 0 limit r) (fine tt) (none-by 0 limit r) tt

order-by : (cs : List Code) (r : Record) → ByReader (in_order cs r)
unfolding in_order coded
order-by cs [] = tt
order-by cs (l ∷ ls) =
    bind-by by_reader (coded 0 l) _ (or-by by_reader (code_of l) 5 0 tt) (λ c e. checked-by by_reader (among c cs) 6 0 _ tt tt)

read_by : (s : State) (r : Record) → ByReader (read_record s r)
unfolding read_record
read_by s r =
    then_by by_reader (good_lines 0 s.limit r) _ (good-by 0 s.limit r)
    (bind-by by_reader (in_order s.expected r) _ (order-by s.expected r) (λ c e. bind-by by_reader (walk_record c r) _ (walk-by c r) (λ fs k. tt)))

-- ---- totals: 10, 11, 12, 13; 14 can't be given where the magnitudes are within the largest

bounded-by : (m : ℕ) (fs : List Field) → ByReader (bounded_from m fs)
unfolding bounded_from
bounded-by m [] = tt
bounded-by m (f ∷ fs) =
    checked-by by_reader (leb (m + magnitudes (amount_of f)) most) 10 f.place _ tt (bounded-by (m + magnitudes (amount_of f)) fs)

total-by : (s : Summary) (fs : List Field) → ByReader (right_total s fs)
unfolding right_total
total-by s fs = check-by by_reader (equals s.sum (amount_adds (amount_in (the total fs).bytes))) 11 (the total fs).place tt

records-by : (s : Summary) (fs : List Field) → ByReader (right_records s fs)
unfolding right_records
records-by s fs = check-by by_reader (eqb s.records (number (the records fs).bytes)) 13 (the records fs).place tt

count_by : (n : ℕ) (fs : List Field) → ByReader (right_count n fs)
unfolding right_count
count_by n fs = check-by by_reader (eqb n (number (the count fs).bytes)) 12 (the count fs).place tt

counted-by : (n : ℕ) (s : Summary) (fs : List Field) → magnitudes s.sum ≤ most → ByReader (sum_within s fs >> (right_total s fs >> (right_count n fs >> right_records s fs)))
unfolding sum_within
counted-by n s fs h =
    rw (is_true (within_most s.sum) (within s.sum h))
    (then_by by_reader (right_total s fs) _ (total-by s fs) (then_by by_reader (right_count n fs) _ (count_by n fs) (records-by s fs)))

balanced-by : (c : Code) (account group file : Summary) (fs : List Field) → magnitudes group.sum ≤ most → magnitudes file.sum ≤ most
    → ByReader (balanced c account group file fs)
unfolding balanced
balanced-by file_header account group file fs g f = tt
balanced-by group_header account group file fs g f = tt
balanced-by account_header account group file fs g f = tt
balanced-by detail account group file fs g f = tt
balanced-by continuation account group file fs g f = tt
balanced-by account_trailer account group file fs g f = then_by by_reader (right_total account fs) _ (total-by account fs) (records-by account fs)
balanced-by group_trailer account group file fs g f = counted-by group.accounts group fs g
balanced-by file_trailer account group file fs g f = counted-by file.groups file fs f

-- ---- a file

-- the file's magnitudes are within the largest, and a group's within the file's
record Bounded (s : State) : Type 0 where
  in-file : magnitudes s.file.sum ≤ most
  in_group : magnitudes s.group.sum ≤ magnitudes s.file.sum

-- with what a record adds
module _ (file group : Summary) (c : Code) (r : Record) (fs : List Field) (within-file : magnitudes group.sum ≤ magnitudes file.sum)
    (room : magnitudes file.sum + magnitudes (sum_of fs) ≤ most) where
  file-room : magnitudes (file ⊞ of_record c r fs).sum ≤ most
  unfolding ◌⊞◌ of_record adding
  file-room = omega arith

  group-room : magnitudes (group ⊞ of_record c r fs).sum ≤ magnitudes (file ⊞ of_record c r fs).sum
  unfolding ◌⊞◌ of_record adding
  group-room = omega arith

  open-room : (t : Bool) → magnitudes (cond t (group ⊞ of_record c r fs) no_summary).sum ≤ magnitudes (file ⊞ of_record c r fs).sum
  open-room true = group-room
  open-room false = omega arith

settled-by : (s : State) (r : Record) (x : Reading) → Bounded s → ByReader (settled s r x)
unfolding settled
settled-by s r x b =
    let this = of_record x.code r x.fields in
    then_by by_reader (own_lines x.code (limit_after x.code s.limit x.fields) r) _ (own-by x.code (limit_after x.code s.limit x.fields) r)
    (bind-by by_reader (bounded_from (magnitudes s.file.sum) x.fields) _ (bounded-by (magnitudes s.file.sum) x.fields) (λ u e.
    let room = bounded-within (magnitudes s.file.sum) x.fields b.in-file e in
    let in_all = file-room s.file s.group x.code r x.fields b.in_group room in
    let in_one = group-room s.file s.group x.code r x.fields b.in_group room in
    then_by by_reader (balanced x.code (s.account ⊞ this) (s.group ⊞ this) (s.file ⊞ this) x.fields) _
    (balanced-by x.code (s.account ⊞ this) (s.group ⊞ this) (s.file ⊞ this) x.fields (omega arith) in_all) tt))

step-bounded : (s t : State) (r : Record) → Bounded s → step s r ≡ fine t → Bounded t
unfolding state_after
step-bounded s t r b h =
    let x = stepped s r t h in
    let room = bounded-within (magnitudes s.file.sum) x.fields b.in-file x.bounded in
    subst Bounded (sym x.next)
    (record {
      in-file = file-room s.file s.group x.code r x.fields b.in_group room;
      in_group = open-room s.file s.group x.code r x.fields b.in_group room (group_open x.code);
    })

run_by : (p : ℕ) (s : State) (rs : List Record) → Bounded s → ByReader (run p s rs)
unfolding run step
run_by p s [] b = tt
run_by p s (r ∷ rs) b =
    bind-by by_reader (moved p (step s r)) _ (moved_by by_reader p (step s r) (bind-by by_reader (read_record s r) _ (read_by s r) (λ x e. settled-by s r x b)))
    (λ next e. run_by (p + record_size r) next rs (step-bounded s next r b (moved-fine p (step s r) next e)))

pub judge-by : (file : Bytes) → By by_reader (judge file)
unfolding judge
judge-by file =
    checked-by by_reader (not (is_empty file)) 1 0 _ tt
    (checked-by by_reader (leb (length file) longest_file) 2 0 _ tt
    (bind-by by_reader (run 0 start (file_records file)) _ (run_by 0 start (file_records file) (record { in-file = omega arith; in_group = omega arith })) (λ s e.
    checked-by by_reader (ended s.expected) 6 (length file) _ tt tt)))
