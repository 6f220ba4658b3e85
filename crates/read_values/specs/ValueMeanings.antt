-- The classes of types and the dates that the code finds, in the rules' terms. Assumes nothing.
use Rattle.std.specs.Prelude.{cond, take, drop, Option, Some, None}
use Rattle.rules.specs.Bytes.{Bytes}
use Rattle.rules.specs.Numbers.{number}
use Rattle.rules.specs.Dates.{is_date}
use Rattle.rules.specs.TypeCodes as types
use Rattle.read_values.specs.declared.Class.{Class}
use Rattle.read_values.specs.declared.Class.TheVariants.{Status, SummaryOnly, SummaryOrDetail, NonMonetary, Unknown}
use Rattle.read_values.specs.declared.date.Date.{Date}

-- the rules' class
abbrev pub class_meant : Class → types.Class
class_meant Status = types.status
class_meant SummaryOnly = types.summary_only
class_meant SummaryOrDetail = types.summary_or_detail
class_meant NonMonetary = types.non_monetary
class_meant Unknown = types.unknown

-- the date that six digits give: where `is_date` (rules/specs/Dates.antt) holds, its year, month and day
unfoldable pub date_in : Bytes → Option Date
date_in bs =
    cond (is_date bs) (Some (record { year = number (take 2 bs); month = number (take 2 (drop 2 bs)); day = number (take 2 (drop 4 bs)) })) None
