-- `find_item::item_in`: an item's type, amount and count, field after field. Assumes nothing.
use mathlib.Core.Path.{sym, ap, ◌∙◌}
use Rattle.rules.specs.Outcome.{fine}
use Rattle.rules.specs.Items.{AccountItem}
use Rattle.base_digits.specs.NumbersRead.{value_of}
use Rattle.base_amounts.specs.AmountsRead.{amount_read}
use Rattle.find_item.specs.ItemSearch.{count_read}
use Rattle.find_item.proofs.ItemLaws.{item-is}
use Rattle.find_item.proofs.item_in.Goals as goal

pub returns : goal.returns
returns c =
    let sought = rw c.in_ok-found.was at c.seek_type.ensures in
    ap (λ (i : AccountItem). fine i)
    (item-is c.args.rec.now c.in_ok-found.found.after c.in_ok-found.found c.take_next-amount.result c.take_next-count.result c.take_next-amount.ensures c.take_next-count.ensures _ _ _
    (c.value.ensures.0 ∙ ap value_of c.bytes_of.ensures)
    (c.amount_in.ensures ∙ ap amount_read c.bytes_of-2.ensures)
    (c.count_in.ensures ∙ ap count_read c.bytes_of-3.ensures))
    ∙ sym sought.0
