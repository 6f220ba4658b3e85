-- `part_groups::account_refusal` meets its contract. Assumes nothing.
use Rattle.rules.specs.Parts.{account_at}
use Rattle.rules.specs.Answers.{account_part}
use Rattle.part_groups.proofs.PartsMoved.{refusal_of-part}
use Rattle.part_groups.proofs.account_refusal.Goals as goal

pub returns : goal.returns
unfolding account_part
returns c = rw c.err.ensures.value (refusal_of-part c.find_account.result (account_at c.args.file.now c.args.g c.args.n) c.find_account.ensures.found)
