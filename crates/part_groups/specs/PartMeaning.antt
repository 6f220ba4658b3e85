-- What the answers of the code say in document 01's terms. Assumes nothing.
use Rattle.std.specs.Prelude.{◌+◌, ◌≤◌, Option, Some, None, Result, Ok, Err, length, take, drop}
use Rattle.rules.specs.Bytes.{Bytes}
use Rattle.rules.specs.Outcome as rules
use Rattle.rules.specs.Answers.{PartAnswer}
use Rattle.base_refusals.specs.declared.Refusal.{Refusal}
use Rattle.base_refusals.specs.RefusalMeaning.{refusal_meant}
use Rattle.part_groups.specs.declared.Part.{Part}

-- a part: where it stands; or its refusal
abbrev pub part_meant : Result Part Refusal → PartAnswer
part_meant (Ok p) = record { refusal = rules.not_refused; start = p.start.0; len = p.length }
part_meant (Err why) = record { refusal = refusal_meant why; start = 0; len = 0 }

-- why there is no part, 0 and 0 where there is one
abbrev pub refusal_told : Option Refusal → rules.Refusal
refusal_told None = rules.not_refused
refusal_told (Some why) = refusal_meant why

-- it ends within these bytes
abbrev pub Inside : Bytes → PartAnswer → Type 0
Inside xs p = p.start + p.len ≤ length xs

-- the bytes where it stands
abbrev pub bytes_at : Bytes → PartAnswer → Bytes
bytes_at xs p = take p.len (drop p.start xs)
