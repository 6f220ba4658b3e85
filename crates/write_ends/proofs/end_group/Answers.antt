-- Answers for `end_group`: the line that `end` commits is the rules' line. Assumes nothing.
use Rattle.std.proofs.Common.{◌∙◌}
use Rattle.write_state.specs.WriterMeaning.{writer_meant}
use Rattle.write_ends.proofs.EndLaws.{group-end-written}
use Rattle.write_ends.proofs.end_group.Goals as goal

pub returns : goal.returns
returns c = c.end.ensures ∙ group-end-written (writer_meant c.args.w) c.args.out.now
