-- Answers for `detail`: its drafted line is committed as the rules say. Assumes nothing.
use Rattle.std.proofs.Common.{◌∙◌}
use Rattle.write_state.specs.WriterMeaning.{writer_meant}
use Rattle.write_calls.proofs.CallLaws.{detail-written}
use Rattle.write_calls.proofs.detail.Goals as goal

pub returns : goal.returns
returns c = c.commit.ensures ∙ detail-written (writer_meant c.args.w) _ _ _ _ _ c.args.out.now _ _ c.sum_given-sum.ensures c.draft.ensures
