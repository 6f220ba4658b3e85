-- What acceptance says of a record and of a file: each check held; and back. Assumes nothing.
use Prim.Native.Nat.{◌≤◌}
use mathlib.Core.Path.{◌≡◌, sym}
use mathlib.Core.Bool.{not}
use mathlib.Core.List.{List}
use lib.Dec.{T, leb, leb→le, le→leb}
use lib.ListN.{length}
use Rattle.rules.specs.Bytes.{Bytes, is_empty}
use Rattle.rules.specs.Outcome.{fine, check}
use Rattle.rules.specs.Lines.{Code, Record, file_records}
use Rattle.rules.specs.Numbers.{magnitudes}
use Rattle.rules.specs.Records.{Field, walk_record}
use Rattle.rules.specs.Totals.{Summary, ◌⊞◌, of_record, bounded_from, balanced}
use Rattle.rules.specs.Order.{ended}
use Rattle.rules.specs.Verdict.{State, start, good_lines, in_order, limit_after, own_lines, Reading, read_record, state_after, settled, step, run, judge}
use Rattle.rules.specs.Limits.{longest_file}
use Rattle.rules.proofs.Binds.{from-bind, then-fine, first_fine, check-holds, check-true, fine-same}

-- ---- a record

-- accepted in state s: its code, its fields, what each check said, and the state after it
pub record Stepped (s : State) (r : Record) (t : State) : Type 0 where
  pub code : Code
  pub fields : List Field
  pub good-lines : good_lines 0 s.limit r ≡ fine tt
  pub in_order : in_order s.expected r ≡ fine code
  pub walked : walk_record code r ≡ fine fields
  pub own-lines : own_lines code (limit_after code s.limit fields) r ≡ fine tt
  pub bounded : bounded_from (magnitudes s.file.sum) fields ≡ fine tt
  pub balances : balanced code (s.account ⊞ of_record code r fields) (s.group ⊞ of_record code r fields) (s.file ⊞ of_record code r fields) fields ≡ fine tt
  pub next : t ≡ state_after s r (record { code = code; fields = fields })

read-fields : (s : State) (r : Record) (x : Reading) → read_record s r ≡ fine x
    → (good_lines 0 s.limit r ≡ fine tt) × (in_order s.expected r ≡ fine x.code) × (walk_record x.code r ≡ fine x.fields)
unfolding read_record
read-fields s r x h =
    from-bind (in_order s.expected r) _ x (then-fine (good_lines 0 s.limit r) _ x h) (λ c order rest.
    from-bind (walk_record c r) _ x rest (λ fs walk last.
    let e : record { code = c; fields = fs } ≡ x = fine-same (record { code = c; fields = fs }) x last in
    rw (← e) (first_fine (good_lines 0 s.limit r) _ x h, order, walk)))

pub stepped : (s : State) (r : Record) (t : State) → step s r ≡ fine t → Stepped s r t
unfolding step settled
stepped s r t h =
    from-bind (read_record s r) _ t h (λ x read rest.
    let this = of_record x.code r x.fields in
    let reads = read-fields s r x read in
    let after-lines = then-fine (own_lines x.code (limit_after x.code s.limit x.fields) r) _ t rest in
    let after-bound = then-fine (bounded_from (magnitudes s.file.sum) x.fields) _ t after-lines in
    record {
      code = x.code;
      fields = x.fields;
      good-lines = reads.0;
      in_order = reads.1;
      walked = reads.2;
      own-lines = first_fine (own_lines x.code (limit_after x.code s.limit x.fields) r) _ t rest;
      bounded = first_fine (bounded_from (magnitudes s.file.sum) x.fields) _ t after-lines;
      balances = first_fine (balanced x.code (s.account ⊞ this) (s.group ⊞ this) (s.file ⊞ this) x.fields) _ t after-bound;
      next = sym (fine-same (state_after s r x) t (then-fine (balanced x.code (s.account ⊞ this) (s.group ⊞ this) (s.file ⊞ this) x.fields) _ t after-bound));
    })

-- and back: where each check holds, the record is accepted
pub step-again : (s : State) (r : Record) (t : State) → Stepped s r t → step s r ≡ fine t
unfolding step settled read_record
step-again s r t x = rw (x.good-lines, x.in_order, x.walked, x.own-lines, x.bounded, x.balances, x.next)

-- ---- a file

-- accepted with summary s: it is not empty and not too long, its records run to a state in which the 99 was there, and s is what they added
pub record Accepted (file : Bytes) (s : Summary) : Type 0 where
  pub some_byte : T (not (is_empty file))
  pub not-too-long : length file ≤ longest_file
  pub last : State
  pub runs : run 0 start (file_records file) ≡ fine last
  pub has_ended : T (ended last.expected)
  pub summary : last.file ≡ s

pub accepted : (file : Bytes) (s : Summary) → judge file ≡ fine s → Accepted file s
unfolding judge
accepted file s h =
    let after-empty = then-fine (check (not (is_empty file)) 1 0) _ s h in
    let after-long = then-fine (check (leb (length file) longest_file) 2 0) _ s after-empty in
    from-bind (run 0 start (file_records file)) _ s after-long (λ t runs rest.
    record {
      some_byte = check-holds (not (is_empty file)) 1 0 (first_fine (check (not (is_empty file)) 1 0) _ s h);
      not-too-long = leb→le (length file) longest_file (check-holds (leb (length file) longest_file) 2 0 (first_fine (check (leb (length file) longest_file) 2 0) _ s after-empty));
      last = t;
      runs = runs;
      has_ended = check-holds (ended t.expected) 6 (length file) (first_fine (check (ended t.expected) 6 (length file)) _ s rest);
      summary = fine-same t.file s (then-fine (check (ended t.expected) 6 (length file)) _ s rest);
    })

-- and back: such a file is accepted
pub accepted-again : (file : Bytes) (s : Summary) → Accepted file s → judge file ≡ fine s
unfolding judge
accepted-again file s x =
    rw (
      check-true (not (is_empty file)) 1 0 x.some_byte,
      check-true (leb (length file) longest_file) 2 0 (le→leb (length file) longest_file x.not-too-long),
      x.runs,
      check-true (ended x.last.expected) 6 (length file) x.has_ended,
      x.summary,
    )
