-- Answers for `account`: its drafted line is committed as the rules say, of no item the line of an empty one. Assumes nothing.
use Rattle.std.proofs.Common.{refl, ◌∙◌}
use Rattle.write_state.specs.WriterMeaning.{writer_meant}
use Rattle.write_records.specs.ItemMeaning.{item_meant}
use Rattle.write_calls.proofs.CallLaws.{account-written, item-or-none}
use Rattle.write_calls.proofs.account.Goals as goal

pub returns : goal.returns
returns c =
    let w = writer_meant c.args.w in
    c.commit.ensures
    ∙ rw c.is_empty-items.ensures
    (account-written w c.args.out.now _ _ c.args.number.now c.args.currency.now (item_meant c.unwrap_or-item.result) c.sum_given-sum.ensures c.account-line.ensures)
    ∙ item-or-none w c.args.number.now c.args.currency.now c.args.out.now c.args.item _ c.unwrap_or-item.ensures refl
