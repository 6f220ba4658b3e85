-- Answers for `end_account`: its drafted line is committed as the rules say. Assumes nothing.
use Rattle.std.proofs.Common.{◌∙◌}
use Rattle.write_state.specs.WriterMeaning.{writer_meant}
use Rattle.write_ends.proofs.EndLaws.{account-end-written}
use Rattle.write_ends.proofs.end_account.Goals as goal

pub returns : goal.returns
returns c =
    c.commit.ensures ∙ account-end-written (writer_meant c.args.w) c.args.out.now _ _ c.add-records.result.0 c.none.ensures c.add-records.ensures c.account_end-line.ensures
