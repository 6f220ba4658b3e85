-- `part_details::text_in` meets its contract. Assumes nothing.
use Rattle.rules.specs.Grammar.{text}
use Rattle.find_field.proofs.DetailFields.{spot_is}
use Rattle.part_details.proofs.DetailLaws.{none-text, slash-text, some-text}
use Rattle.part_details.proofs.text_in.Goals as goal

pub returns-in-None : goal.returns-in-None
returns-in-None c =
    let a = c.args in
    none-text a.file.now a.part.start.0 a.part.length c.requires (rw c.bytes-rec.ensures at (spot_is text _ _ c.in-None.ensures.answer))

pub returns-then-is_one_of : goal.returns-then-is_one_of
returns-then-is_one_of c =
    let a = c.args in
    let found = c.in-Some.text in
    slash-text a.file.now a.part.start.0 a.part.length c.requires found.start.0 found.length (rw c.bytes-rec.ensures at (spot_is text _ _ c.in-Some.ensures.answer))
    (rw c.bytes-rec.ensures at c.in-Some.ensures.within) c.is_one_of.result (rw c.bytes-rec.ensures at c.is_one_of.ensures) c.if-is_one_of.true

pub returns-else-is_one_of : goal.returns-else-is_one_of
returns-else-is_one_of c =
    let a = c.args in
    let found = c.in-Some.text in
    some-text a.file.now a.part.start.0 a.part.length c.requires found.start.0 found.length (rw c.bytes-rec.ensures at (spot_is text _ _ c.in-Some.ensures.answer))
    (rw c.bytes-rec.ensures at c.in-Some.ensures.within) c.is_one_of.result (rw c.bytes-rec.ensures at c.is_one_of.ensures) c.if-is_one_of.false
