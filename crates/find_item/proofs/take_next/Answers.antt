-- `find_item::take_next`: the first field ahead, or none. Assumes nothing.
use Rattle.find_item.proofs.ItemLaws.{none-taken, some-taken}
use Rattle.find_item.proofs.take_next.Goals as goal

pub returns-in-Some : goal.returns-in-Some
returns-in-Some c = some-taken c.args.rec.now c.args.walk c.requires c.in-Some.step c.in-Some.ensures

pub returns-in-None : goal.returns-in-None
returns-in-None c = none-taken c.args.rec.now c.args.walk c.requires c.in-None.ensures
