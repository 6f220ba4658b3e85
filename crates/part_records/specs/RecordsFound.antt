-- What `record_at` promises. Assumes nothing.
use Rattle.std.specs.Prelude.{ℕ, ◌+◌, ◌≤◌, ◌≡◌, Result, Ok, Err, length, take, drop}
use Rattle.rules.specs.Bytes.{Bytes}
use Rattle.rules.specs.Outcome.{Outcome, refused, fine, not_refused}
use Rattle.rules.specs.Lines.{lines_of, code_number}
use Rattle.rules.specs.HandedOut.{CodedRecord, record_at, RecordAnswer, record_answer}
use Rattle.base_codes.specs.CodeMeaning.{code_meant}
use Rattle.base_refusals.specs.RefusalMeaning.{refusal_meant}
use Rattle.base_refusals.specs.declared.Refusal.{Refusal}
use Rattle.part_records.specs.declared.Record.{Record}

-- the answer in the rules' terms
abbrev pub record_meant : Result Record Refusal → RecordAnswer
record_meant (Err why) = record { refusal = refusal_meant why; code = 0; lines = 0; len = 0 }
record_meant (Ok r) = record { refusal = not_refused; code = code_number (code_meant r.code); lines = r.lines.0; len = r.length }

-- the record's lines are those of the first `length` bytes from its start on
abbrev pub outcome_meant : Bytes → ℕ → Result Record Refusal → Outcome CodedRecord
outcome_meant file start (Err why) = refused (refusal_meant why)
outcome_meant file start (Ok r) = fine (record { code = code_meant r.code; lines = lines_of (take r.length (drop start file)) })

-- it ends in the file
abbrev pub EndsIn : ℕ → ℕ → Result Record Refusal → Type 0
EndsIn size start (Err why) = Unit {0}
EndsIn size start (Ok r) = start + r.length ≤ size

-- a file's bytes, where the record begins, and the answer
pub record Finds (file : Bytes) (start : ℕ) (r : Result Record Refusal) : Type 0 where
  pub answer : record_meant r ≡ record_answer (record_at file start)
  pub outcome : record_at file start ≡ outcome_meant file start r
  pub inside : EndsIn (length file) start r
