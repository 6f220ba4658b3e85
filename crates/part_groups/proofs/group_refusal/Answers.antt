-- `part_groups::group_refusal` meets its contract. Assumes nothing.
use Rattle.rules.specs.Parts.{group_at}
use Rattle.rules.specs.Answers.{group_part}
use Rattle.part_groups.proofs.PartsMoved.{refusal_of-part}
use Rattle.part_groups.proofs.group_refusal.Goals as goal

pub returns : goal.returns
unfolding group_part
returns c = rw c.err.ensures.value (refusal_of-part c.find_group.result (group_at c.args.file.now c.args.n) c.find_group.ensures.found)
