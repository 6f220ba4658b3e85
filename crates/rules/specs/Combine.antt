-- Document 01, "Combine (A, B)": A's header lines and groups, then B's groups, bytes unchanged, then a fresh 99. Assumes nothing.
use Rattle.std.specs.Prelude.{ℕ, ◌+◌, Bool, true, ◌&&◌, List, [], ◌∷◌, ◌++◌, leb, length, drop}
use Rattle.std.proofs.Math.Option.{Option, none, some}
use Rattle.rules.specs.Bytes.{Bytes, LF, comma, slash}
use Rattle.rules.specs.Numbers.{decimal, total_bytes, magnitudes}
use Rattle.rules.specs.Limits.{most, longest_file, longest_line}
use Rattle.rules.specs.Outcome.{Refusal, not_refused, Outcome, refused, fine, ◌>>=◌, ◌>>◌, check}
use Rattle.rules.specs.Lines.{Line, Code, file_header, file_trailer, code_bytes, code_of, Record, record_bytes}
use Rattle.rules.specs.Totals.{Summary, no_summary, ◌⊞◌, of_record}
use Rattle.rules.specs.Verdict.{limit_given, judge}
use Rattle.rules.specs.Parts.{header_in, groups_in, fields_in, first_fields}

-- ---- a fresh 99

-- what a record adds to a summary; in an accepted file each record has a line, and each line a code
unfoldable pub of_coded : Option Code → Record → Summary
of_coded none r = no_summary
of_coded (some c) r = of_record c r (fields_in c r)

unfoldable pub summary_of : Record → Summary
summary_of [] = no_summary
summary_of (l ∷ ls) = of_coded (code_of l) (l ∷ ls)

unfoldable pub summary_of_all : List Record → Summary
summary_of_all [] = no_summary
summary_of_all (r ∷ rs) = summary_of r ⊞ summary_of_all rs

-- one line after records with this summary: total, groups, records with itself; ended by LF
unfoldable pub fresh_trailer : Summary → Bytes
fresh_trailer s =
    code_bytes file_trailer ++ total_bytes s.sum ++ (comma ∷ decimal s.groups) ++ (comma ∷ decimal (s.records + 1)) ++ (slash ∷ LF ∷ [])

unfoldable pub with_trailer : List Record → Bytes
with_trailer rs = record_bytes rs ++ fresh_trailer (summary_of_all rs)

-- ---- the result

unfoldable pub concat : {A : Type 0} → List (List A) → List A
concat [] = []
concat (xs ∷ xss) = xs ++ concat xss

-- L of an accepted file with this header, or 4,096
unfoldable pub limit_of : List Record → ℕ
limit_of header = limit_given longest_line (first_fields file_header header)

-- no line over the limit
unfoldable pub lines_within : ℕ → List Line → Bool
lines_within limit [] = true
lines_within limit (l ∷ ls) = leb (length l.body) limit && lines_within limit ls

-- a result of n bytes: 18, then 15; room is the length of the output slice
abbrev pub has_room : ℕ → ℕ → Outcome (Unit {0})
has_room n room = check (leb n longest_file) 18 0 >> check (leb n room) 15 0

unfoldable pub fitting : Bytes → ℕ → Outcome Bytes
fitting out room = do
  has_room (length out) room
  fine out

-- order: A's refusal, B's, 10, 18, 15
unfoldable pub combined : Bytes → Bytes → ℕ → Outcome Bytes
combined a b room = do
  s ← judge a
  t ← judge b
  check (leb (magnitudes s.sum + magnitudes t.sum) most) 10 0
  check (lines_within (limit_of (header_in a)) (concat (concat (groups_in b)))) 18 0
  fitting (with_trailer (header_in a ++ (concat (groups_in a) ++ concat (groups_in b)))) room

-- ---- the call

-- what a call answers: its refusal, 0 and 0 where there is none; which file, 1 or 2, or 0; the result's length, or 0;
-- and the output slice: accepted output fills the first bytes, the rest stays; where refused all of it stays
pub record Answer : Type 0 where
  pub refusal : Refusal
  pub which : ℕ
  pub len : ℕ
  pub output : Bytes

unfoldable pub answered : Outcome Bytes → ℕ → Bytes → Answer
answered (refused why) which before = record { refusal = why; which = which; len = 0; output = before }
answered (fine out) which before = record { refusal = not_refused; which = 0; len = length out; output = out ++ drop (length out) before }

-- which file was refused by the reader
unfoldable pub which_file : Outcome Summary → Outcome Summary → ℕ
which_file (refused why) t = 1
which_file (fine s) (refused why) = 2
which_file (fine s) (fine t) = 0

unfoldable pub combine : Bytes → Bytes → Bytes → Answer
combine a b before = answered (combined a b (length before)) (which_file (judge a) (judge b)) before
