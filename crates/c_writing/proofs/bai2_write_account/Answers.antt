-- Answers for `bai2_write_account`: what the writer answers, in numbers. Assumes nothing.
use Rattle.std.proofs.Common.{rules}
use Rattle.rules.specs.Writer as rules
use Rattle.write_line.specs.DraftMeaning.{amount_given, items_given}
use Rattle.write_records.specs.ItemMeaning.{item_given}
use Rattle.c_writer.specs.WriterFigures.{or_none, amount_asked, item_of, item_asked}
use Rattle.c_writing.proofs.WriterReplies.{replies_as}
use Rattle.c_writing.proofs.bai2_write_account.Goals as goal

pub returns : goal.returns
unfolding or_none
returns c =
    replies_as c.args.writer c.state_of-w.result c.account-r.result c.answered.result (rules.write_account c.args.account.now c.args.currency.now (item_given c.then_some-item.result)) (rules.write_account c.args.account.now c.args.currency.now (item_asked c.args.item_given (item_of c.args.type_code.now c.args.amount_given c.args.amount c.args.count_given c.args.count)))
    c.args.out.now c.account-r.new.out (search rules) c.state_of-w.ensures c.account-r.ensures c.answered.ensures
