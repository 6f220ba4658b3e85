-- What is handed out of a record: the record that begins at a byte, and its fields. Lines and records are cut from that byte on as document 01 cuts them, and the
-- fields are those that its walk takes; the file is not judged. Assumes nothing.
use Rattle.std.specs.Prelude.{ℕ, ◌+◌, ◌*◌, cond, ◌&&◌, List, [], ◌∷◌, ◌++◌, leb, length, drop}
use Rattle.rules.specs.Bytes.{Bytes, slash, just}
use Rattle.rules.specs.Outcome.{Refusal, not_refused, Outcome, refused, refuse, fine, ◌>>=◌, ◌>>◌, check, moved}
use Rattle.rules.specs.Lines.{Code, code_number, Record, record_size, file_records}
use Rattle.rules.specs.Grammar.{text, same_kind, kind_number}
use Rattle.rules.specs.Records.{Field, walk_record}
use Rattle.rules.specs.Verdict.{coded}

-- ---- a record

-- a record and its code; 88 where it begins with one
pub record CodedRecord : Type 0 where
  pub code : Code
  pub lines : Record

-- the first of some records, which starts at place p: 17 where there is none, then 5 where it has no code; no record is without a line, so the second clause is never reached
unfoldable pub first_coded : ℕ → List Record → Outcome CodedRecord
first_coded p [] = refuse 17 0
first_coded p ([] ∷ rs) = refuse 17 0
first_coded p ((l ∷ ls) ∷ rs) = coded p l >>= λ c. fine (record { code = c; lines = l ∷ ls })

-- the record that begins at byte `start`
unfoldable pub record_at : Bytes → ℕ → Outcome CodedRecord
record_at file start = first_coded start (file_records (drop start file))

-- what the call answers: its code, how many lines it has, and its length with line ends; where refused, every number is 0
pub record RecordAnswer : Type 0 where
  pub refusal : Refusal
  pub code : ℕ
  pub lines : ℕ
  pub len : ℕ

unfoldable pub record_answer : Outcome CodedRecord → RecordAnswer
record_answer (refused why) = record { refusal = why; code = 0; lines = 0; len = 0 }
record_answer (fine x) = record { refusal = not_refused; code = code_number x.code; lines = length x.lines; len = record_size x.lines }

-- ---- its fields

-- refused as the record is, then as the walk refuses, the place in the file; places of the fields are counted from the record's start
unfoldable pub fields_at : Bytes → ℕ → Outcome (List Field)
fields_at file start = record_at file start >>= λ x. moved start (walk_record x.code x.lines)

-- then 15, where the slice has less than three numbers a field
unfoldable pub fields_out : Bytes → ℕ → ℕ → Outcome (List Field)
fields_out file start room = do
  fs ← fields_at file start
  check (leb (3 * length fs) room) 15 0
  fine fs

-- "/" where a text may stand means no text: a text of length 0
unfoldable pub handed_length : Field → ℕ
handed_length f = cond (same_kind text f.kind && just slash f.bytes) 0 (length f.bytes)

-- for each field its kind, the place of its first byte in the file, and its length
unfoldable pub handed : ℕ → List Field → List ℕ
handed start [] = []
handed start (f ∷ fs) = kind_number f.kind ∷ (start + f.place) ∷ handed_length f ∷ handed start fs

-- what the call answers: how many fields, and the numbers of the slice, which were these before; where refused, the slice stays as it was
pub record FieldsAnswer : Type 0 where
  pub refusal : Refusal
  pub count : ℕ
  pub out : List ℕ

unfoldable pub fields_answer : ℕ → Outcome (List Field) → List ℕ → FieldsAnswer
fields_answer start (refused why) before = record { refusal = why; count = 0; out = before }
fields_answer start (fine fs) before = record { refusal = not_refused; count = length fs; out = handed start fs ++ drop (3 * length fs) before }

unfoldable pub fields_of_record : Bytes → ℕ → List ℕ → FieldsAnswer
fields_of_record file start before = fields_answer start (fields_out file start (length before)) before
