-- `part_details::detail` meets its contract. Assumes nothing.
use Prim.Native.Nat.{zero-le}
use Rattle.std.proofs.lemmas.Result.{err_from_is_err_and}
use Rattle.part_details.proofs.DetailLaws.{Reads, detail-refused, detail-found}
use Rattle.part_details.proofs.detail.Goals as goal

pub returns-in_err-part : goal.returns-in_err-part
returns-in_err-part c =
    let a = c.args in
    let p = err_from_is_err_and c.from_residual.result c.from_residual.ensures.1 in
    let said = detail-refused c.in_err-part.field-0.0 a.file.now a.g a.a a.n (rw c.in_err-part.was at c.find_detail.ensures.found) in
    rw (p.1, p.2) (record { told = said.0; text = record { bytes = said.1; inside = zero-le } })

pub returns : goal.returns
returns c =
    let a = c.args in
    let part = c.in_ok-part.part in
    let text = c.text_in.ensures in
    let said =
    detail-found a.file.now part (record { type_code = c.type_of.result; amount = c.amount_of.result; text = c.text_in.result }) a.g a.a a.n
    (rw c.in_ok-part.was at c.find_detail.ensures.found)
    (record { type-is = rw c.bytes-rec.ensures at c.type_of.ensures; amount-is = rw c.bytes-rec.ensures at c.amount_of.ensures; text-is = text }) in
    record { told = said.0; text = record { bytes = said.1; inside = text.inside } }
