-- `part_groups::find_detail` meets its contract. Assumes nothing.
use Rattle.std.proofs.lemmas.Result.{err_from_is_err_and}
use Rattle.rules.specs.Parts.{account_at, detail_part_at, in_details}
use Rattle.rules.specs.Answers.{account_part}
use Rattle.part_groups.proofs.PartsMoved.{same-refusal}
use Rattle.part_groups.proofs.PartsStand.{outer-account}
use Rattle.part_groups.proofs.find_detail.Goals as goal

pub returns-in_err-find_account-clause-found : goal.returns-in_err-find_account-clause-found
unfolding account_part detail_part_at
returns-in_err-find_account-clause-found c =
    let a = c.args in
    let p = err_from_is_err_and c.from_residual.result c.from_residual.ensures.1 in
    rw (p.1, p.2) (same-refusal _ (account_at a.file.now a.g a.a) _ (rw c.in_err-find_account.was at c.find_account.ensures.found))

pub returns-clause-found : goal.returns-clause-found
unfolding account_part detail_part_at in_details
returns-clause-found c =
    let a = c.args in
    c.part_within.ensures.found (account_at a.file.now a.g a.a) (rw c.in_ok-find_account.was at c.find_account.ensures.found) (outer-account a.file.now a.g a.a)
