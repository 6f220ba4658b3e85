-- Answers for `bai2_write_header`: what the writer answers, in numbers. Assumes nothing.
use Rattle.rules.specs.Writer as rules
use Rattle.c_writing.proofs.WriterReplies.{replies}
use Rattle.c_writing.proofs.bai2_write_header.Goals as goal

pub returns : goal.returns
returns c =
    replies c.args.writer c.state_of-w.result c.header-r.result c.answered.result (rules.write_header c.args.sender.now c.args.receiver.now c.args.date.now c.args.time.now c.args.file_number.now) c.args.out.now c.header-r.new.out c.state_of-w.ensures c.header-r.ensures
    c.answered.ensures
