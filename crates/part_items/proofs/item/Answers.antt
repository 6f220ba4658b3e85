-- `part_items::item` meets its contract. Assumes nothing.
use Rattle.std.proofs.lemmas.Result.{err_from_is_err_and}
use Rattle.part_items.proofs.ItemAnswers.{account-refused, item-found}
use Rattle.part_items.proofs.item.Goals as goal

pub returns-in_err-account : goal.returns-in_err-account
returns-in_err-account c =
    let a = c.args in
    let p = err_from_is_err_and c.from_residual.result c.from_residual.ensures.1 in
    rw (p.1, p.2) (account-refused _ a.file.now a.g a.a a.n (rw c.in_err-account.was at c.find_account.ensures.found))

pub returns : goal.returns
returns c =
    let a = c.args in
    rw (c.ok_or.ensures.value, c.nowhere.ensures)
    (item-found a.file.now a.n c.in_ok-account.account a.g a.a c.item_in.result (rw c.in_ok-account.was at c.find_account.ensures.found)
    (rw c.bytes.ensures at c.item_in.ensures))
