-- `part_fields::fields_of` meets its contract. Assumes nothing.
use Prim.Native.Nat.{◌*◌}
use native.Mathlib.Omega.{arith}
use mathlib.Core.Path.{sym, ◌∙◌}
use borrow.Author.Tests.{leb-true}
use lib.ListN.{length, drop}
use Rattle.std.proofs.lemmas.Result.{err_from_is_err_and}
use Rattle.base_codes.specs.CodeMeaning.{code_meant}
use Rattle.find_walk.specs.WalkEnds.{numbers_passed, trace_of_record}
use Rattle.part_fields.proofs.FieldsLaws.{refused-gives, met-never, numbers-size, all-put, no-room-gives, gives, copied}
use Rattle.part_fields.proofs.fields_of.Goals as goal

pub returns-in_err-count : goal.returns-in_err-count
returns-in_err-count c =
    let a = c.args in
    let p = err_from_is_err_and c.from_residual.result c.from_residual.ensures.1 in
    let t = trace_of_record (drop a.start.0 a.file.now) 1 (code_meant a.code) in
    rw (p.1, p.2) (refused-gives a.start.0 t a.out.now _ (rw c.in_err-count.was at c.walk_to.ensures.answer))

pub returns-in_default : goal.returns-in_default
returns-in_default c =
    let a = c.args in
    let t = trace_of_record (drop a.start.0 a.file.now) 1 (code_meant a.code) in
    absurd (met-never a.start.0 t a.out.now _ _ (rw (c.in_ok-count.was, c.in_default.is) at c.walk_to.ensures.answer))

pub returns-then-not-has_room : goal.returns-then-not-has_room
returns-then-not-has_room c =
    let a = c.args in
    let t = trace_of_record (drop a.start.0 a.file.now) 1 (code_meant a.code) in
    rw c.nowhere-then-not-has_room.ensures
    (no-room-gives a.start.0 t a.out.now c.in-Over.count.0 (rw (c.in_ok-count.was, c.in-Over.is) at c.walk_to.ensures.answer)
    (sym c.has_room.ensures ∙ c.if-not-has_room.true))

-- put into the space of the call's own, then copied
pub returns-then-n-le-HELD : goal.returns-then-n-le-HELD
returns-then-n-le-HELD c =
    let a = c.args in
    let t = trace_of_record (drop a.start.0 a.file.now) 1 (code_meant a.code) in
    let n = c.in-Over.count.0 in
    let over = rw (c.in_ok-count.was, c.in-Over.is) at c.walk_to.ensures.answer in
    let fits = sym c.has_room.ensures ∙ c.if-not-has_room.false in
    let filled = c.walk_to.ensures.out ∙ all-put a.start.0 t a.out.now n over _ (omega (arith, c.if-n-le-HELD.true)) in
    gives a.start.0 t a.out.now n over c.put.new.out fits
    (copied (numbers_passed 0 a.start.0 t) _ a.out.now c.put.new.out (3 * n) c.put.result (numbers-size a.start.0 t a.out.now n over)
    (rw filled at c.put.ensures) fits)

-- put into the slice itself
pub returns : goal.returns
returns c =
    let a = c.args in
    let t = trace_of_record (drop a.start.0 a.file.now) 1 (code_meant a.code) in
    let n = c.in-Over.count.0 in
    let over = rw (c.in_ok-count.was, c.in-Over.is) at c.walk_to.ensures.answer in
    let fits = sym c.has_room.ensures ∙ c.if-not-has_room.false in
    gives a.start.0 t a.out.now n over c.walk_to-2.new.out fits
    (c.walk_to-2.ensures.out ∙ all-put a.start.0 t a.out.now n over a.out.now (leb-true (3 * n) (length a.out.now) fits))
