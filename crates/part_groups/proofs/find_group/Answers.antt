-- `part_groups::find_group` meets its contract. Assumes nothing.
use mathlib.Core.Path.{sym}
use Rattle.std.proofs.lemmas.Result.{err_from_is_err_and}
use Rattle.part_groups.proofs.PartsStand.{file-envelope, group-refused, group-accepted}
use Rattle.part_groups.proofs.find_group.Goals as goal

pub returns-in_err-read-clause-found : goal.returns-in_err-read-clause-found
returns-in_err-read-clause-found c =
    let p = err_from_is_err_and c.from_residual.result c.from_residual.ensures.1 in
    rw (p.1, p.2) (group-refused c.args.file.now c.args.n _ (sym (rw c.in_err-read.was at c.read.ensures)))

pub returns-clause-found : goal.returns-clause-found
returns-clause-found c =
    let a = c.args in
    let said = sym (rw c.in_ok-read.was at c.read.ensures) in
    group-accepted a.file.now _ a.n _ said (c.nth_part.ensures.found (file-envelope a.file.now _ said))
