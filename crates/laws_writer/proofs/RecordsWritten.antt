-- The bytes so far, as the reader reads them: a call's line is a new record, or an 88 after the last one. Assumes nothing.
use mathlib.Core.Path.{◌≡◌, refl, sym, ◌∙◌}
use mathlib.Core.Bool.{Bool, true, false, cond}
use mathlib.Core.List.{List, [], ◌∷◌, ◌++◌}
use mathlib.Core.Option.{some}
use Prim.Native.Nat.{ℕ, ◌+◌, ◌≤◌}
use native.Mathlib.Omega.{arith}
use lib.ListN.{length, length-append}
use borrow.Author.Tests.{le-leb}
use Rattle.rules.specs.Bytes.{Bytes, all, allowed}
use Rattle.rules.specs.Outcome.{Outcome, fine, check, moved}
use Rattle.rules.specs.Numbers.{◌⊕◌, magnitudes}
use Rattle.rules.specs.Limits.{most, longest_line}
use Rattle.rules.specs.Lines.{Line, lf, lines_of, Code, file_header, account_header, continuation, same_code, code_bytes, begins, code_of, Record, records_of, file_records}
use Rattle.rules.specs.Cells.{cells_from, cells_of}
use Rattle.rules.specs.Grammar.{Kind, may_lack, fields_of, further_type}
use Rattle.rules.specs.Records.{Field, walk_lines, walk_record}
use Rattle.rules.specs.Totals.{◌⊞◌, amount_of, sum_of, of_record, bounded_from, balanced}
use Rattle.rules.specs.Order.{may_follow, among}
use Rattle.rules.specs.Verdict.{State, start, good_lines, none_longer, in_order, coded, limit_after, own_lines, Reading, state_after, step, run}
use Rattle.rules.specs.Parts.{size_of_all, fields_in}
use Rattle.rules.specs.Writer.{expected_in, phase_after, Writer, Given, sum_given, of_given, body_of, line_of, entry_of, wants_item}
use Rattle.rules.proofs.Binds.{from-bind, then-fine, or-fine, fine-same, refused-fine}
use Rattle.rules.proofs.LineLaws.{records-append}
use Rattle.rules.proofs.RunLaws.{run-append}
use Rattle.rules.proofs.Accepted.{step-again}
use Rattle.laws_writer.specs.SessionWords.{Value, Told, of_code, all_said, coded_said, record_said, records_said, file_said, gathered}
use Rattle.laws_writer.proofs.WalkWritten.{walk_at}
use Rattle.laws_writer.proofs.LinesWritten.{all_both, Cut, lines_more, cut-more, code-bytes, good-line, in_order_lem, none-longer}
use Rattle.laws_writer.proofs.Found.{rest_of, text_kinds, holds_items, Found}

-- ---- a record that the reader takes

-- the reader's state that a writer's numbers say
abbrev pub state_of : Writer → State
state_of w = record { expected = expected_in w.phase; limit = longest_line; file = w.file; group = w.group; account = w.account }

abbrev pub reading : Code → List Field → Reading
reading c fs = record { code = c; fields = fs }

-- after what this writer has written; wanted: the kinds that may still come
pub record Taken (w : Writer) (r : Record) (c : Code) (fs : List Field) (wanted : List Kind) : Type 0 where
  pub lines : good_lines 0 longest_line r ≡ fine tt
  pub order : in_order (expected_in w.phase) r ≡ fine c
  pub slash : ℕ
  pub walked : walk_lines 0 (walk_at (fields_of c) [] 0) r ≡ fine (walk_at wanted fs slash)
  pub may : may_lack wanted ≡ true
  pub limit : limit_after c longest_line fs ≡ longest_line
  pub bound : magnitudes w.file.sum + magnitudes (sum_of fs) ≤ most
  pub balances : balanced c (w.account ⊞ of_record c r fs) (w.group ⊞ of_record c r fs) (w.file ⊞ of_record c r fs) fs ≡ fine tt

bounded-all : (m : ℕ) (fs : List Field) → m + magnitudes (sum_of fs) ≤ most → bounded_from m fs ≡ fine tt
unfolding bounded_from sum_of
bounded-all m [] h = refl
bounded-all m (f ∷ fs) h = rw (le-leb (m + magnitudes (amount_of f)) most (omega arith)) (bounded-all (m + magnitudes (amount_of f)) fs (omega arith))

own-lines : (c : Code) (r : Record) → good_lines 0 longest_line r ≡ fine tt → own_lines c longest_line r ≡ fine tt
unfolding own_lines
own-lines c r h = by-test (same_code c file_header)
  where
    by-test : (t : Bool) → ◌≡◌ {A = Outcome (Unit {0})} (cond t (none_longer 0 longest_line r) (fine tt)) (fine tt)
    by-test true = none-longer 0 longest_line r h
    by-test false = refl

module _ {w : Writer} {r : Record} {c : Code} {fs : List Field} {wanted : List Kind} (t : Taken w r c fs wanted) where
  walk-taken : walk_record c r ≡ fine fs
  unfolding walk_record
  walk-taken = rw (t.walked, t.may)

  step-taken : step (state_of w) r ≡ fine (state_after (state_of w) r (reading c fs))
  step-taken =
      step-again (state_of w) r (state_after (state_of w) r (reading c fs))
      (record {
        code = c;
        fields = fs;
        good-lines = t.lines;
        in_order = t.order;
        walked = walk-taken;
        own-lines = rw t.limit (own-lines c r t.lines);
        bounded = bounded-all (magnitudes w.file.sum) fs t.bound;
        balances = t.balances;
        next = refl;
      })

order-code : (cs : List Code) (l : Line) (ls : List Line) (c : Code) → in_order cs (l ∷ ls) ≡ fine c → code_of l ≡ some c
unfolding in_order coded
order-code cs l ls c h =
    from-bind (coded 0 l) _ c h (λ d first rest.
    rw (← fine-same d c (then-fine (check (among d cs) 6 0) (fine d) c rest)) (or-fine (code_of l) 5 0 d first))

taken-said : (w : Writer) (r : Record) (c : Code) (fs : List Field) (wanted : List Kind) → Taken w r c fs wanted → record_said r ≡ of_code c (all_said fs)
unfolding record_said coded_said fields_in in_order
taken-said w [] c fs wanted t = absurd (refused-fine _ c t.order)
taken-said w (l ∷ ls) c fs wanted t = rw (order-code (expected_in w.phase) l ls c t.order, walk-taken t)

-- ---- the bytes so far

-- the state, the bytes, and what was told
pub record Run : Type 0 where
  pub writer : Writer
  pub bytes : Bytes
  pub told : List Told

-- with a line more
abbrev pub extended : Run → Given → List Kind → List Value → Run
extended r g left vs = record { writer = (entry_of r.writer g left).next; bytes = r.bytes ++ line_of g; told = gathered g.code r.told vs }

pub record Ready (r : Run) : Type 0 where
  pub cut : Cut r.bytes
  pub size : r.writer.size ≡ length r.bytes
  pub runs : run 0 start (file_records r.bytes) ≡ fine (state_of r.writer)
  pub told : file_said r.bytes ≡ r.told

-- with the last record apart: v is the writer before it
pub record After (r : Run) : Type 0 where
  pub before : List Record
  pub v : Writer
  pub last : Record
  pub code : Code
  pub fields : List Field
  pub wanted : List Kind
  pub whole : file_records r.bytes ≡ before ++ (last ∷ [])
  pub first : run 0 start before ≡ fine (state_of v)
  pub taken : Taken v last code fields wanted
  pub state : state_after (state_of v) last (reading code fields) ≡ state_of r.writer
  pub items : r.writer.items ≡ wants_item wanted
  pub item : wants_item wanted ≡ true → (wanted ≡ further_type ∷ []) × (code ≡ account_header)
  pub cut : Cut r.bytes
  pub size : r.writer.size ≡ length r.bytes
  pub told : r.told ≡ records_said before ++ (of_code code (all_said fields) ∷ [])

records-said : (rs qs : List Record) → records_said (rs ++ qs) ≡ records_said rs ++ records_said qs
unfolding records_said
records-said [] qs = refl
records-said (r ∷ rs) qs = rw (records-said rs qs)

module _ (r : Run) (b : After r) where
  last-run : (p : ℕ) → run p (state_of b.v) (b.last ∷ []) ≡ fine (state_of r.writer)
  unfolding run moved
  last-run p = rw (step-taken b.taken, b.state)

  pub ready-after : Ready r
  unfolding file_said records_said
  ready-after =
      record {
        cut = b.cut;
        size = b.size;
        runs = rw (b.whole, run-append 0 start b.before (b.last ∷ []), b.first) (last-run (0 + size_of_all b.before));
        told = rw (b.whole, records-said b.before (b.last ∷ []), taken-said b.v b.last b.code b.fields b.wanted b.taken) (sym b.told);
      }

-- ---- a line more

abbrev pub line_at : Given → Line
line_at g = record { body = body_of g; line_end = lf }

module _ (g : Given) {vs : List Value} {left : List Kind} (l : Found g vs left) where
  pub body-clear : all allowed (body_of g) ≡ true
  unfolding body_of
  body-clear = all_both allowed (code_bytes g.code) (rest_of g) (code-bytes g.code).clear l.clear

  body-short : length (body_of g) ≤ longest_line
  unfolding body_of
  body-short = rw (length-append (code_bytes g.code) (rest_of g), (code-bytes g.code).size) (omega (arith, l.short))

  pub good-body : (p : ℕ) → good_lines p longest_line (line_at g ∷ []) ≡ fine tt
  unfolding body_of
  good-body p = good-line g.code (rest_of g) longest_line p body-clear body-short

  pub cells-body : (p : ℕ) → cells_of p (line_at g) ≡ cells_from (p + 3) (rest_of g)
  unfolding body_of cells_of
  cells-body p = rw ((code-bytes g.code).past (rest_of g))

pub size-more : (w : Writer) (bytes : Bytes) (g : Given) (left : List Kind) → w.size ≡ length bytes → (entry_of w g left).next.size ≡ length (bytes ++ line_of g)
unfolding entry_of
size-more w bytes g left h = rw (length-append bytes (line_of g), h)

-- ---- a new record

module _ (r : Run) (ready : Ready r) (g : Given) (vs : List Value) (left : List Kind) (l : Found g vs left) where
  this-line : of_record g.code (line_at g ∷ []) (l.fields 3) ≡ of_given g
  unfolding of_record of_given
  this-line = rw (l.sum 3)

  new-taken : among g.code (expected_in r.writer.phase) ≡ true → g.kinds ++ text_kinds g.text ≡ fields_of g.code
      → limit_after g.code longest_line (l.fields 3) ≡ longest_line → magnitudes (r.writer.file.sum ⊕ sum_given g.amount) ≤ most
      → balanced g.code (r.writer.account ⊞ of_given g) (r.writer.group ⊞ of_given g) (r.writer.file ⊞ of_given g) (l.fields 3) ≡ fine tt
      → Taken r.writer (line_at g ∷ []) g.code (l.fields 3) l.wanted
  unfolding body_of walk_lines
  new-taken turn kinds limit bound balances =
      record {
        lines = good-body g l 0;
        order = in_order_lem g.code (rest_of g) (expected_in r.writer.phase) [] turn;
        slash = l.slash 3 0;
        walked = rw (cells-body g l 0, ← kinds, l.walked 3 [] 0);
        may = l.may;
        limit = limit;
        bound = rw (l.sum 3) (omega arith);
        balances = rw this-line balances;
      }

  records-new : begins continuation (line_at g) ≡ false → file_records (r.bytes ++ line_of g) ≡ file_records r.bytes ++ ((line_at g ∷ []) ∷ [])
  unfolding line_of file_records records_of
  records-new h = rw (lines_more r.bytes (body_of g) ready.cut (body-clear g l)) (records-append (lines_of r.bytes) (line_at g ∷ []) (rw h tt))

  new-state : limit_after g.code longest_line (l.fields 3) ≡ longest_line → may_follow g.code ≡ expected_in (phase_after g.code)
      → state_after (state_of r.writer) (line_at g ∷ []) (reading g.code (l.fields 3)) ≡ state_of (entry_of r.writer g left).next
  unfolding state_after entry_of
  new-state limit phase = rw (this-line, limit, phase)

  pub new-record : among g.code (expected_in r.writer.phase) ≡ true → g.kinds ++ text_kinds g.text ≡ fields_of g.code
      → limit_after g.code longest_line (l.fields 3) ≡ longest_line → magnitudes (r.writer.file.sum ⊕ sum_given g.amount) ≤ most
      → balanced g.code (r.writer.account ⊞ of_given g) (r.writer.group ⊞ of_given g) (r.writer.file ⊞ of_given g) (l.fields 3) ≡ fine tt
      → begins continuation (line_at g) ≡ false → may_follow g.code ≡ expected_in (phase_after g.code)
      → (holds_items g.code ≡ true → g.code ≡ account_header) → gathered g.code r.told vs ≡ r.told ++ (of_code g.code vs ∷ [])
      → After (extended r g left vs)
  unfolding entry_of line_of file_said
  new-record turn kinds limit bound balances begin phase item told =
      record {
        before = file_records r.bytes;
        v = r.writer;
        last = line_at g ∷ [];
        code = g.code;
        fields = l.fields 3;
        wanted = l.wanted;
        whole = records-new begin;
        first = ready.runs;
        taken = new-taken turn kinds limit bound balances;
        state = new-state limit phase;
        items = l.items;
        item = λ e. ((l.item e).0, item (l.item e).1);
        cut = cut-more r.bytes (body_of g) ready.cut (body-clear g l);
        size = size-more r.writer r.bytes g left ready.size;
        told = told ∙ rw (← ready.told, l.back 3);
      }
