-- `part_groups::account` meets its contract. Assumes nothing.
use mathlib.Core.Path.{◌∙◌}
use Rattle.rules.specs.Parts.{account_at}
use Rattle.rules.specs.Answers.{account_part}
use Rattle.laws.proofs.FileTheorems.{account-is-slice}
use Rattle.part_groups.specs.PartMeaning.{part_meant}
use Rattle.part_groups.proofs.PartsMoved.{named-slice}
use Rattle.part_groups.proofs.account.Goals as goal

pub returns : goal.returns
unfolding account_part
returns c =
    let a = c.args in
    let f = c.find_account in
    c.bytes_of.ensures ∙ named-slice a.file.now (account_at a.file.now a.g a.n) (part_meant f.result) f.ensures.found (account-is-slice a.file.now a.g a.n)
