-- `begins_with` meets its contract. Assumes nothing.
use Rattle.std.proofs.Common.{arith}
use Rattle.std.proofs.lemmas.Grind.{common_steps}
use Rattle.read_lines.proofs.Fronts.{three-short, three-first, three-second, three_third}
use Rattle.read_lines.proofs.begins_with.Goals as goal

pub returns-then-s-at-2 : goal.returns-then-s-at-2
returns-then-s-at-2 c =
    let a = c.args in
    grind (arith, common_steps, three_third a.s.now a.start.0 a.x a.y)

pub returns-else-s-at-2 : goal.returns-else-s-at-2
returns-else-s-at-2 c =
    let a = c.args in
    grind (arith, common_steps, three-short a.s.now a.start.0 a.x a.y, three-first a.s.now a.start.0 a.x a.y, three-second a.s.now a.start.0 a.x a.y)
