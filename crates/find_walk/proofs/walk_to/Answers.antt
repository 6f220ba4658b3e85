-- `find_walk::walk_to`: the walk before its first field, at its ends, and past a field. Assumes nothing.
use Prim.Native.Nat.{ℕ}
use native.Mathlib.Omega.{arith}
use mathlib.Core.Path.{◌≡◌, ap, ◌∙◌}
use mathlib.Core.List.{List}
use lib.ListN.{length, take, drop}
use lib.Seq.{take_all}
use Rattle.rules.specs.Bytes.{Bytes}
use Rattle.rules.specs.Lines.{Code, lines_of}
use Rattle.rules.specs.Grammar.{Kind, fields_of}
use Rattle.base_codes.specs.CodeMeaning.{code_meant}
use Rattle.find_next.specs.FieldTrace.{Trace, trace_lines}
use Rattle.find_next.specs.CursorMeaning.{own_lines}
use Rattle.find_walk.specs.WalkEnds.{trace_of_record}
use Rattle.find_walk.proofs.WalkLaws.{going_start, stop-ends, over-ends, met-ends, going_next}
use Rattle.find_walk.proofs.walk_to.Goals as goal

-- what is yielded of the record, as the contract names it
all-is : (rec : Bytes) (least : ℕ) (code : Code) (ks : List Kind) (t : Trace) → ks ≡ fields_of code → t ≡ trace_lines 0 ks 0 (own_lines least 0 (lines_of rec)) → t ≡ trace_of_record rec least code
all-is rec least code ks t e q = q ∙ ap (λ (l : List Kind). trace_lines 0 l 0 (own_lines least 0 (lines_of rec))) e

-- the record's bytes, as it names them
rec-is : (file rec : Bytes) (start : ℕ) → rec ≡ drop start (take (length file) file) → rec ≡ drop start file
rec-is file rec start e = e ∙ ap (λ (bs : Bytes). drop start bs) (take_all (length file) file (omega arith))

pub loop-why-init : goal.loop-why-init
loop-why-init c =
    let rec = c.part-rec.result.now in
    going_start rec c.args.start.0 c.args.least c.args.sought c.before_record-walk.result c.args.out.now (c.before_record-walk.ensures.1 rec c.args.least).1

pub returns-in-Err : goal.returns-in-Err
returns-in-Err c =
    let a = c.args in
    let rec = c.part-rec.result.now in
    let l = c.loop-why in
    stop-ends rec a.start.0 a.least a.sought _ a.out.now l.walk l.n l.at l.out l.invariant
    (code_meant a.code) (all-is rec a.least (code_meant a.code) _ _ c.first_want.ensures (c.before_record-walk.ensures.1 rec a.least).0)
    (drop a.start.0 a.file.now) (rec-is a.file.now rec a.start.0 c.part-rec.ensures) _ _ c.in-Err.ensures c.refused_there.ensures

pub returns-in-Ok-None : goal.returns-in-Ok-None
returns-in-Ok-None c =
    let a = c.args in
    let rec = c.part-rec.result.now in
    let l = c.loop-why in
    over-ends rec a.start.0 a.least a.sought _ a.out.now l.walk l.n l.at l.out l.invariant
    (code_meant a.code) (all-is rec a.least (code_meant a.code) _ _ c.first_want.ensures (c.before_record-walk.ensures.1 rec a.least).0)
    (drop a.start.0 a.file.now) (rec-is a.file.now rec a.start.0 c.part-rec.ensures) (rw c.in-Ok-None.field-0-is at c.in-Ok-None.ensures)

pub returns-then-kind-sought : goal.returns-then-kind-sought
returns-then-kind-sought c =
    let a = c.args in
    let rec = c.part-rec.result.now in
    let l = c.loop-why in
    met-ends rec a.start.0 a.least a.sought _ a.out.now l.walk l.n l.at l.out l.invariant
    (code_meant a.code) (all-is rec a.least (code_meant a.code) _ _ c.first_want.ensures (c.before_record-walk.ensures.1 rec a.least).0)
    (drop a.start.0 a.file.now) (rec-is a.file.now rec a.start.0 c.part-rec.ensures) c.in-Ok-Some.step (rw c.in-Ok-Some.field-0-is at c.in-Ok-Some.ensures)
    c.kind_number-kind.result c.kind_number-kind.ensures c.if-kind-sought.true

pub loop-why-preserved : goal.loop-why-preserved
loop-why-preserved c =
    let a = c.args in
    let rec = c.part-rec.result.now in
    let l = c.loop-why in
    going_next rec a.start.0 a.least a.sought _ a.out.now l.walk l.n l.at l.out l.invariant
    (code_meant a.code) (all-is rec a.least (code_meant a.code) _ _ c.first_want.ensures (c.before_record-walk.ensures.1 rec a.least).0)
    (drop a.start.0 a.file.now) (rec-is a.file.now rec a.start.0 c.part-rec.ensures) c.in-Ok-Some.step (rw c.in-Ok-Some.field-0-is at c.in-Ok-Some.ensures)
    c.kind_number-kind.result c.kind_number-kind.ensures _ _ c.if-kind-sought.false c.put_next-at.ensures
