-- The items that calls are given, as those of the rules. Assumes nothing.
use Rattle.std.specs.Prelude as prelude
use Rattle.std.specs.Prelude.{Some, None}
use Rattle.std.proofs.Math.Option.{Option, none, some}
use Rattle.rules.specs.Writer as rules
use Rattle.write_line.specs.DraftMeaning.{amount_given, items_given}
use Rattle.write_records.specs.declared.Item.{Item}

-- an item, and one or none
abbrev pub item_meant : Item → rules.Item
item_meant i = record { type = i.type_code.now; amount = amount_given i.amount; item_count = items_given i.count }

abbrev pub item_given : prelude.Option Item → Option rules.Item
item_given (Some i) = some (item_meant i)
item_given None = none
