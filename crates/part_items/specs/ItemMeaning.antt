-- What an item's answer says in document 01's terms. Assumes nothing.
use Rattle.std.specs.Prelude.{Result, Ok, Err}
use Rattle.std.proofs.Math.Option.{none}
use Rattle.rules.specs.Outcome.{not_refused}
use Rattle.rules.specs.Amounts.{empty}
use Rattle.rules.specs.Answers as rules
use Rattle.base_refusals.specs.declared.Refusal.{Refusal}
use Rattle.base_refusals.specs.RefusalMeaning.{refusal_meant}
use Rattle.base_amounts.specs.AmountsRead.{amount_meant}
use Rattle.find_item.specs.declared.Item.{Item}
use Rattle.find_item.specs.ItemSearch.{count_meant}

-- an item: its figures; or its refusal
abbrev pub item_meant : Result Item Refusal → rules.ItemAnswer
item_meant (Ok i) = record { refusal = not_refused; type = i.type_code; amount = amount_meant i.amount; count = count_meant i.count }
item_meant (Err why) = record { refusal = refusal_meant why; type = 0; amount = empty; count = none }
