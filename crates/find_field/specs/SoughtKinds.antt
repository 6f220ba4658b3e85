-- What the answers of the code say of the search. Assumes nothing.
use Rattle.std.specs.Prelude.{◌+◌, ◌≤◌, ◌≡◌, Bool, true, false, length, take, drop, Option, Some, None, is_some}
use Rattle.rules.specs.Bytes.{Bytes}
use Rattle.rules.specs.Lines.{Code, lines_of}
use Rattle.rules.specs.Grammar.{Kind, detail_type, amount, text, ultimate_receiver, total, records, fields_of, kind_number}
use Rattle.find_walk.specs.WalkEnds.{WalkEnd, stopped, over_after, met_at, walk_end, trace_of_record}
use Rattle.find_field.specs.declared.Sought.{Sought}
use Rattle.find_field.specs.declared.Sought.TheVariants as sought
use Rattle.find_field.specs.declared.Spot.{Spot}
use Rattle.find_field.specs.FieldSearch.{Found, nothing_found, seek_lines}

-- the kind that is sought
abbrev pub kind_meant : Sought → Kind
kind_meant sought.Type = detail_type
kind_meant sought.Amount = amount
kind_meant sought.Text = text
kind_meant sought.Receiver = ultimate_receiver
kind_meant sought.Total = total
kind_meant sought.Records = records

-- the field in a record, or none
abbrev pub spot_meant : Bytes → Option Spot → Found
spot_meant rec None = nothing_found
spot_meant rec (Some r) = record { place = r.start.0; bytes = take r.length (drop r.start.0 rec) }

-- a field stands in the record
abbrev pub StandsIn : Bytes → Option Spot → Type 0
StandsIn rec None = Unit {0}
StandsIn rec (Some r) = r.start.0 + r.length ≤ length rec

-- the walk met a field
abbrev pub is_met : WalkEnd → Bool
is_met (stopped why) = false
is_met (over_after n) = false
is_met (met_at p bs) = true

-- it is the one that `seek_lines` gives, and there is one exactly where the walk meets one
pub record Spots (rec : Bytes) (c : Code) (s : Sought) (r : Option Spot) : Type 0 where
  pub answer : spot_meant rec r ≡ seek_lines (kind_meant s) (fields_of c) (lines_of rec)
  pub met : is_some r ≡ is_met (walk_end (kind_number (kind_meant s)) 0 (trace_of_record rec (length rec) c))
  pub within : StandsIn rec r
