-- Answers for `bai2_write_detail`: what the writer answers, in numbers. Assumes nothing.
use Rattle.std.proofs.Common.{rules}
use Rattle.rules.specs.Writer as rules
use Rattle.write_line.specs.DraftMeaning.{amount_given, items_given}
use Rattle.write_records.specs.ItemMeaning.{item_given}
use Rattle.c_writer.specs.WriterFigures.{or_none, amount_asked, item_of, item_asked}
use Rattle.c_writing.proofs.WriterReplies.{replies_as}
use Rattle.c_writing.proofs.bai2_write_detail.Goals as goal

pub returns : goal.returns
returns c =
    replies_as c.args.writer c.state_of-w.result c.detail-r.result c.answered.result (rules.write_detail c.args.type_code.now (amount_given c.amount_asked.result) c.args.bank_reference.now c.args.customer_reference.now c.args.text.now) (rules.write_detail c.args.type_code.now (amount_asked c.args.amount_given c.args.amount) c.args.bank_reference.now c.args.customer_reference.now c.args.text.now)
    c.args.out.now c.detail-r.new.out (search rules) c.state_of-w.ensures c.detail-r.ensures c.answered.ensures
