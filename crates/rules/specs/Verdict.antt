-- Document 01, "Refusals by number": a file's verdict, in the order given there. Assumes nothing.
use Rattle.std.specs.Prelude.{ℕ, suc, ◌+◌, cond, not, List, [], ◌∷◌, leb, length}
use Rattle.rules.specs.Limits.{longest_file, longest_line}
use Rattle.rules.specs.Bytes.{Bytes, allowed, is_empty}
use Rattle.rules.specs.Numbers.{number, magnitudes}
use Rattle.rules.specs.Outcome.{Outcome, refuse, fine, ◌>>=◌, ◌>>◌, check, or_refused, moved}
use Rattle.rules.specs.Lines.{Line, size_of, Code, file_header, same_code, code_of, Record, record_size, file_records}
use Rattle.rules.specs.Grammar.{physical_length}
use Rattle.rules.specs.Records.{Field, the, walk_record}
use Rattle.rules.specs.Totals.{Summary, no_summary, ◌⊞◌, of_record, bounded_from, balanced}
use Rattle.rules.specs.Order.{may_follow, among, ended, group_after, account_after}

-- ---- a record's lines: 3, 4, 5

-- 3: the first byte past, of a line that starts at p
unfoldable pub not_longer : ℕ → ℕ → Line → Outcome (Unit {0})
not_longer p limit l = check (leb (length l.body) limit) 3 (p + limit)

-- 4: the first byte not allowed, of bytes that start at p
unfoldable pub all_allowed : ℕ → Bytes → Outcome (Unit {0})
all_allowed p [] = fine tt
all_allowed p (b ∷ bs) = check (allowed b) 4 p >>= λ _. all_allowed (suc p) bs

-- 5: a code and a comma
unfoldable pub coded : ℕ → Line → Outcome Code
coded p l = or_refused (code_of l) 5 p

unfoldable pub good_line : ℕ → ℕ → Line → Outcome Code
good_line p limit l = do
  not_longer p limit l
  all_allowed p l.body
  coded p l

-- for each line 3, 4, 5
unfoldable pub good_lines : ℕ → ℕ → Record → Outcome (Unit {0})
good_lines p limit [] = fine tt
good_lines p limit (l ∷ ls) = good_line p limit l >>= λ _. good_lines (p + size_of l) limit ls

-- 3 alone
unfoldable pub none_longer : ℕ → ℕ → Record → Outcome (Unit {0})
none_longer p limit [] = fine tt
none_longer p limit (l ∷ ls) = not_longer p limit l >>= λ _. none_longer (p + size_of l) limit ls

-- ---- a record

-- expected: the codes that may come next; limit: no line is longer (4,096, or L once known);
-- and the summaries of all records so far, of those of the open group, and of those of the open account; none where none is open
pub record State : Type 0 where
  pub expected : List Code
  pub limit : ℕ
  pub file : Summary
  pub group : Summary
  pub account : Summary

abbrev pub start : State
start = record { expected = file_header ∷ []; limit = longest_line; file = no_summary; group = no_summary; account = no_summary }

-- 6, at the record's start; no record is without a line, so the first clause is never reached, and each line has a code by now (5)
unfoldable pub in_order : List Code → Record → Outcome Code
in_order cs [] = refuse 6 0
in_order cs (l ∷ ls) = coded 0 l >>= λ c. check (among c cs) 6 0 >> fine c

-- a record's code and its fields
pub record Reading : Type 0 where
  pub code : Code
  pub fields : List Field

-- for each line 3, 4, 5; then 6; then fields, 7, 8 or 9; places are counted from the record's start
unfoldable pub read_record : State → Record → Outcome Reading
read_record s r = do
  good_lines 0 s.limit r
  c ← in_order s.expected r
  fs ← walk_record c r
  fine (record { code = c; fields = fs })

-- L, where a header's fields give it; else the limit that held before
unfoldable pub limit_given : ℕ → List Field → ℕ
limit_given limit fs = let bs = (the physical_length fs).bytes in cond (is_empty bs) limit (number bs)

-- the limit after a record of this code: only a 01 gives one
unfoldable pub limit_after : Code → ℕ → List Field → ℕ
limit_after c limit fs = cond (same_code c file_header) (limit_given limit fs) limit

-- the header's own lines are held against L after its fields
unfoldable pub own_lines : Code → ℕ → Record → Outcome (Unit {0})
own_lines c limit r = cond (same_code c file_header) (none_longer 0 limit r) (fine tt)

-- the state after a record that was read so
unfoldable pub state_after : State → Record → Reading → State
state_after s r x =
    let this = of_record x.code r x.fields in
    record {
      expected = may_follow x.code;
      limit = limit_after x.code s.limit x.fields;
      file = s.file ⊞ this;
      group = group_after x.code s.group this;
      account = account_after x.code s.account this;
    }

-- after the fields: the header's own lines against L; then 10; then for trailers 14, 11, 12, 13
unfoldable pub settled : State → Record → Reading → Outcome State
settled s r x = do
  let this = of_record x.code r x.fields
  own_lines x.code (limit_after x.code s.limit x.fields) r
  bounded_from (magnitudes s.file.sum) x.fields
  balanced x.code (s.account ⊞ this) (s.group ⊞ this) (s.file ⊞ this) x.fields
  fine (state_after s r x)

unfoldable pub step : State → Record → Outcome State
step s r = read_record s r >>= λ x. settled s r x

-- ---- a file

-- the records in file order, the first of which starts at place p
unfoldable pub run : ℕ → State → List Record → Outcome State
run p s [] = fine s
run p s (r ∷ rs) = moved p (step s r) >>= λ next. run (p + record_size r) next rs

-- 1 and 2 come first, then records in file order; 6 where the file ends before its 99
unfoldable pub judge : Bytes → Outcome Summary
judge file = do
  check (not (is_empty file)) 1 0
  check (leb (length file) longest_file) 2 0
  s ← run 0 start (file_records file)
  check (ended s.expected) 6 (length file)
  fine s.file
