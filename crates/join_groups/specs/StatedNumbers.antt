-- What a 98 states, by the field that the search finds; 0 where it finds none. Stands for the total and the record count that the rules read of a 98
-- (`right_total`, `right_records` in rules/specs/Totals.antt); joined by `stated-total` and `stated-records` (proofs/StatedLaws.antt). Assumes nothing.
use Rattle.std.specs.Prelude.{ℕ}
use Rattle.rules.specs.Numbers.{Sum, number}
use Rattle.rules.specs.Amounts.{amount_in, amount_adds}
use Rattle.rules.specs.Lines.{group_trailer, Record}
use Rattle.rules.specs.Grammar.{total, records, fields_of}
use Rattle.find_field.specs.FieldSearch.{seek_lines}

-- its total
abbrev pub stated_total : Record → Sum
stated_total r = amount_adds (amount_in (seek_lines total (fields_of group_trailer) r).bytes)

-- its number of records
abbrev pub stated_records : Record → ℕ
stated_records r = number (seek_lines records (fields_of group_trailer) r).bytes
