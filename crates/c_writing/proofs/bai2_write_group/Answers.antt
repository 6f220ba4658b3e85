-- Answers for `bai2_write_group`: what the writer answers, in numbers. Assumes nothing.
use Rattle.rules.specs.Writer as rules
use Rattle.c_writing.proofs.WriterReplies.{replies}
use Rattle.c_writing.proofs.bai2_write_group.Goals as goal

pub returns : goal.returns
returns c =
    replies c.args.writer c.state_of-w.result c.group-r.result c.answered.result (rules.write_group c.args.receiver.now c.args.originator.now c.args.status.now c.args.date.now c.args.time.now c.args.currency.now c.args.modifier.now) c.args.out.now c.group-r.new.out c.state_of-w.ensures c.group-r.ensures
    c.answered.ensures
