-- Answers for `bai2_write_item`: what the writer answers, in numbers. Assumes nothing.
use Rattle.std.proofs.Common.{rules}
use Rattle.rules.specs.Writer as rules
use Rattle.write_line.specs.DraftMeaning.{amount_given, items_given}
use Rattle.write_records.specs.ItemMeaning.{item_given}
use Rattle.c_writer.specs.WriterFigures.{or_none, amount_asked, item_of, item_asked}
use Rattle.c_writing.proofs.WriterReplies.{replies_as}
use Rattle.c_writing.proofs.bai2_write_item.Goals as goal

pub returns : goal.returns
returns c =
    replies_as c.args.writer c.state_of-w.result c.item-r.result c.answered.result (rules.write_item (record { type = c.args.type_code.now; amount = amount_given c.amount_asked.result; item_count = items_given c.items_asked.result })) (rules.write_item (item_of c.args.type_code.now c.args.amount_given c.args.amount c.args.count_given c.args.count))
    c.args.out.now c.item-r.new.out (search rules) c.state_of-w.ensures c.item-r.ensures c.answered.ensures
