-- `find_next::next_field`: its answer in the line that the walk stands in. Assumes nothing.
use Rattle.std.proofs.lemmas.Result.{err_from_is_err_and}
use Rattle.find_next.proofs.CursorLaws.{line-steps}
use Rattle.find_next.proofs.next_field.Goals as goal

pub returns-in_err-field_here : goal.returns-in_err-field_here
returns-in_err-field_here c =
    let a = c.args in
    let p = err_from_is_err_and c.from_residual-in_err-field_here.result c.from_residual-in_err-field_here.ensures.1 in
    rw (p.1, p.2) (line-steps a.rec.now a.least a.walk _ _ (rw (c.in_ok-here.was, c.in-Some.is) at c.in_line.ensures) (rw c.in_err-field_here.was at (c.field_here.ensures a.least)))

pub returns : goal.returns
returns c =
    let a = c.args in
    line-steps a.rec.now a.least a.walk _ _ (rw (c.in_ok-here.was, c.in-Some.is) at c.in_line.ensures) (rw c.in_ok-field_here.was at (c.field_here.ensures a.least))
