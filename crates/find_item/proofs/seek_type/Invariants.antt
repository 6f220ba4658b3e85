-- `find_item::seek_type`: before each field, the item sought comes after so many others of those ahead. Assumes nothing.
use Rattle.find_next.specs.CursorMeaning.{left_of}
use Rattle.find_item.proofs.ItemLaws.{Going}
use Rattle.find_item.proofs.seek_type.Given as goal

abbrev pub invariant-loop-step : goal.invariant-loop-step
invariant-loop-step l = Going l.rec l.n l.walk l.left

abbrev pub decreases-loop-step : goal.decreases-loop-step
decreases-loop-step l = left_of l.rec l.walk
