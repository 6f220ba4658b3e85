-- `part_groups::find_account` meets its contract. Assumes nothing.
use Rattle.std.proofs.lemmas.Result.{err_from_is_err_and}
use Rattle.rules.specs.Parts.{group_at, account_at, in_accounts}
use Rattle.rules.specs.Answers.{group_part, account_part}
use Rattle.part_groups.proofs.PartsMoved.{same-refusal}
use Rattle.part_groups.proofs.PartsStand.{outer-group}
use Rattle.part_groups.proofs.find_account.Goals as goal

pub returns-in_err-find_group-clause-found : goal.returns-in_err-find_group-clause-found
unfolding group_part account_part account_at
returns-in_err-find_group-clause-found c =
    let a = c.args in
    let p = err_from_is_err_and c.from_residual.result c.from_residual.ensures.1 in
    rw (p.1, p.2) (same-refusal _ (group_at a.file.now a.g) _ (rw c.in_err-find_group.was at c.find_group.ensures.found))

pub returns-clause-found : goal.returns-clause-found
unfolding group_part account_part account_at in_accounts
returns-clause-found c =
    let a = c.args in
    c.part_within.ensures.found (group_at a.file.now a.g) (rw c.in_ok-find_group.was at c.find_group.ensures.found) (outer-group a.file.now a.g)
