-- Answers for `group`: its drafted line is committed as the rules say. Assumes nothing.
use Rattle.std.proofs.Common.{◌∙◌}
use Rattle.write_state.specs.WriterMeaning.{writer_meant}
use Rattle.write_calls.proofs.CallLaws.{group-written}
use Rattle.write_calls.proofs.group.Goals as goal

pub returns : goal.returns
returns c = c.commit.ensures ∙ group-written (writer_meant c.args.w) c.args.out.now _ _ _ _ _ _ _ _ _ c.none.ensures c.draft-line.ensures
