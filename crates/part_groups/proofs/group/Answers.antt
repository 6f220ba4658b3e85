-- `part_groups::group` meets its contract. Assumes nothing.
use mathlib.Core.Path.{◌∙◌}
use Rattle.rules.specs.Parts.{group_at}
use Rattle.rules.specs.Answers.{group_part}
use Rattle.laws.proofs.FileTheorems.{group-is-slice}
use Rattle.part_groups.specs.PartMeaning.{part_meant}
use Rattle.part_groups.proofs.PartsMoved.{named-slice}
use Rattle.part_groups.proofs.group.Goals as goal

pub returns : goal.returns
unfolding group_part
returns c =
    let a = c.args in
    let f = c.find_group in
    c.bytes_of.ensures ∙ named-slice a.file.now (group_at a.file.now a.n) (part_meant f.result) f.ensures.found (group-is-slice a.file.now a.n)
