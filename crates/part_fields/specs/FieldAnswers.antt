-- What the answer of the code says, and what `fields_of` promises. Assumes nothing.
use Rattle.std.specs.Prelude.{ℕ, ◌*◌, ◌≡◌, List, Result, Ok, Err, leb, length}
use Rattle.rules.specs.Bytes.{Bytes}
use Rattle.rules.specs.Outcome.{Outcome, fine, not_refused, ◌>>=◌, ◌>>◌, check, moved}
use Rattle.rules.specs.Lines.{Code}
use Rattle.rules.specs.Records.{Field}
use Rattle.rules.specs.HandedOut.{FieldsAnswer, fields_answer}
use Rattle.base_refusals.specs.RefusalMeaning.{refusal_meant}
use Rattle.find_next.specs.FieldTrace.{collected}
use Rattle.find_walk.specs.WalkEnds.{trace_of_record}
use Rattle.base_refusals.specs.declared.Refusal.{Refusal}
use Rattle.find_walk.specs.declared.FieldCount.{FieldCount}

-- the answer of the code
abbrev pub fields_meant : Result FieldCount Refusal → List ℕ → FieldsAnswer
fields_meant (Err why) out = record { refusal = refusal_meant why; count = 0; out = out }
fields_meant (Ok n) out = record { refusal = not_refused; count = n.0; out = out }

-- order: as the walk refuses, the place in the file; then 15
unfoldable pub out_from : ℕ → Outcome (List Field) → ℕ → Outcome (List Field)
out_from start o room = moved start o >>= λ fs. check (leb (3 * length fs) room) 15 0 >> fine fs

-- the bytes from the record's start on, that start, its code, the slice before and after, and the answer: what `fields_of_record` (rules/specs/HandedOut.antt) says
-- of a record that is found; joined by `found-gives` (proofs/FieldsLaws.antt)
abbrev pub Gives : Bytes → ℕ → Code → List ℕ → List ℕ → Result FieldCount Refusal → Type 0
Gives rec start c before after r =
    fields_meant r after ≡ fields_answer start (out_from start (collected (trace_of_record rec 1 c)) (length before)) before
