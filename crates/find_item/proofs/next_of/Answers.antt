-- `find_item::next_of`: what is yielded next. Assumes nothing.
use Rattle.find_item.proofs.ItemLaws.{follows}
use Rattle.find_item.proofs.next_of.Goals as goal

pub returns : goal.returns
returns c = rw c.unwrap_or.ensures (follows c.args.rec.now c.args.walk c.next_field.result c.next_field.ensures)
