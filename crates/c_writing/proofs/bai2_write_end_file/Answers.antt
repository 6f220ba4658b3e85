-- Answers for `bai2_write_end_file`: what the writer answers, in numbers. Assumes nothing.
use Rattle.rules.specs.Writer as rules
use Rattle.c_writing.proofs.WriterReplies.{replies}
use Rattle.c_writing.proofs.bai2_write_end_file.Goals as goal

pub returns : goal.returns
returns c =
    replies c.args.writer c.state_of-w.result c.end_file-r.result c.answered.result (rules.end_file) c.args.out.now c.end_file-r.new.out c.state_of-w.ensures c.end_file-r.ensures
    c.answered.ensures
