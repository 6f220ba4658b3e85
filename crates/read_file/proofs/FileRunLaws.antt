-- The loop over records: the verdict from the start is the verdict from here on. Assumes nothing.
use Prim.Native.Nat.{ℕ, ◌+◌, ◌≤◌, ◌<◌}
use mathlib.Core.Path.{◌≡◌, refl, ◌∙◌}
use mathlib.Core.Bool.{false}
use mathlib.Core.List.{List, [], ◌∷◌, ◌++◌}
use native.Mathlib.Omega.{arith}
use borrow.Author.Tests.{le-leb, lt-leb}
use lib.ListN.{length, drop, length-drop, drop_of_length-le}
use lib.Seq.{drop-drop}
use Rattle.rules.specs.Bytes.{Bytes, is_empty}
use Rattle.rules.specs.Outcome.{Refusal, Outcome, refused, refuse, fine, ◌>>=◌, ◌>>◌, check, moved}
use Rattle.rules.specs.Lines.{Record, lines_of, records_of, record_size, file_records}
use Rattle.rules.specs.Parts.{size_of_all}
use Rattle.rules.specs.Verdict.{State, start, step, run, judge}
use Rattle.rules.specs.Limits.{longest_file}
use Rattle.read_lines.specs.LineLengths.{first_record}
use Rattle.read_lines.proofs.OneRecord.{one-record}
use Rattle.read_file.specs.FileAnswers.{at_end}

-- the records from place `at` on
unfoldable pub run_from : ℕ → State → Bytes → Outcome State
run_from at s file = run at s (records_of (lines_of (drop at file)))

pub run_end : (at : ℕ) (s : State) (file : Bytes) → length file ≤ at → run_from at s file ≡ fine s
unfolding run_from run records_of lines_of
run_end at s file h = rw (drop_of_length-le file {i = at} h)

-- where the last of some records starts, the first of which starts at `at`; where there is none, `last`
unfoldable pub last_start : ℕ → ℕ → List Record → ℕ
last_start last at [] = last
last_start last at (r ∷ rs) = last_start at (at + record_size r) rs

pub last_of : (last at : ℕ) (rs : List Record) (t : Record) → last_start last at (rs ++ (t ∷ [])) ≡ at + size_of_all rs
unfolding last_start size_of_all
last_of last at [] t = omega arith
last_of last at (r ∷ rs) t = last_of at (at + record_size r) rs t ∙ omega arith

-- the same of the records from place `at` on
unfoldable pub last_from : ℕ → ℕ → Bytes → ℕ
last_from last at file = last_start last at (records_of (lines_of (drop at file)))

pub last_end : (last at : ℕ) (file : Bytes) → length file ≤ at → last_from last at file ≡ last
unfolding last_from last_start records_of lines_of
last_end last at file h = rw (drop_of_length-le file {i = at} h)

-- the record at `at`, of so many bytes
module _ (at size : ℕ) (s : State) (file : Bytes) (h : at < length file) (e : size ≡ record_size (first_record (lines_of (drop at file)))) where
  run-first : run_from at s file ≡ moved at (step s (first_record (lines_of (drop at file)))) >>= λ next. run_from (at + size) next file
  unfolding run_from run
  run-first =
      let l = length-drop at file in
      rw (one-record (drop at file) size e (omega arith), drop-drop size at file, ← e)

  pub run-stop : (why : Refusal) → step s (first_record (lines_of (drop at file))) ≡ refused why → run_from at s file ≡ refuse why.number (at + why.place)
  unfolding moved
  run-stop why q = run-first ∙ rw q

  pub run-go : (next : State) → step s (first_record (lines_of (drop at file))) ≡ fine next → run_from at s file ≡ run_from (at + size) next file
  unfolding moved
  run-go next q = run-first ∙ rw q

  pub last-go : (last : ℕ) → last_from last at file ≡ last_from at (at + size) file
  unfolding last_from last_start
  last-go last =
      let l = length-drop at file in
      rw (one-record (drop at file) size e (omega arith), drop-drop size at file, e)

-- ---- the verdict: 1, 2, the records, 6 at the file's end

pub judge-empty : (file : Bytes) → length file ≡ 0 → judge file ≡ refuse 1 0
unfolding judge is_empty
judge-empty [] h = refl
judge-empty (b ∷ file) h = absurd (omega arith)

some_bytes : (file : Bytes) → 0 < length file → is_empty file ≡ false
unfolding is_empty
some_bytes [] h = absurd (omega arith)
some_bytes (b ∷ file) h = refl

module _ (file : Bytes) (h : 0 < length file) where
  pub judge-long : longest_file < length file → judge file ≡ refuse 2 0
  unfolding judge
  judge-long k = rw (some_bytes file h, lt-leb (length file) longest_file k)

  module _ (k : length file ≤ longest_file) where
    judge-run : judge file ≡ run_from 0 start file >>= λ s. at_end s (length file)
    unfolding judge run_from file_records at_end
    judge-run = rw (some_bytes file h, le-leb (length file) longest_file k)

    pub judge-stop : (why : Refusal) → run_from 0 start file ≡ refused why → judge file ≡ refused why
    judge-stop why e = judge-run ∙ rw e

    pub judge-end : (s : State) → run_from 0 start file ≡ fine s → judge file ≡ at_end s (length file)
    judge-end s e = judge-run ∙ rw e
