-- Answers for `bai2_write_end_account`: what the writer answers, in numbers. Assumes nothing.
use Rattle.rules.specs.Writer as rules
use Rattle.c_writing.proofs.WriterReplies.{replies}
use Rattle.c_writing.proofs.bai2_write_end_account.Goals as goal

pub returns : goal.returns
returns c =
    replies c.args.writer c.state_of-w.result c.end_account-r.result c.answered.result (rules.end_account) c.args.out.now c.end_account-r.new.out c.state_of-w.ensures c.end_account-r.ensures
    c.answered.ensures
