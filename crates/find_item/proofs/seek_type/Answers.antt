-- `find_item::seek_type`: the walk before its first field, at its end, and at each field. Assumes nothing.
use mathlib.Core.Path.{sym, ap, ◌∙◌}
use mathlib.Core.List.{List}
use Rattle.rules.specs.Grammar.{Kind}
use Rattle.rules.specs.Lines.{lines_of}
use Rattle.rules.specs.Items.{item_from}
use Rattle.find_next.specs.FieldTrace.{Trace, trace_lines}
use Rattle.find_next.specs.CursorMeaning.{own_lines}
use Rattle.find_item.specs.ItemSearch.{yielded, items_read}
use Rattle.find_item.proofs.ItemLaws.{going-none, going-met, going_on}
use Rattle.find_item.proofs.seek_type.Goals as goal

pub loop-step-init : goal.loop-step-init
loop-step-init c =
    let rec = c.args.rec.now in
    let start = c.before_record-walk.ensures.1 rec 1 in
    let all = start.0 ∙ ap (λ (ks : List Kind). trace_lines 0 ks 0 (own_lines 1 0 (lines_of rec))) c.first_want.ensures in
    record { inside = start.1; same = ap (λ (t : Trace). item_from (items_read (yielded t)) c.args.n) (sym all) }

pub returns-in_err-step : goal.returns-in_err-step
returns-in_err-step c =
    let l = c.loop-step in
    rw c.from_residual.ensures (going-none c.args.rec.now c.args.n l.walk l.left l.invariant (rw c.in_err-step.was at c.next_of.ensures))

pub returns-in_default : goal.returns-in_default
returns-in_default c =
    let l = c.loop-step in
    going-met c.args.rec.now c.args.n l.walk l.left l.invariant c.in_ok-step.step (rw c.in_ok-step.was at c.next_of.ensures) c.kind_number.result c.begins_item-begins.result
    c.kind_number.ensures c.begins_item-begins.ensures (sym c.in_default.ensures)

pub loop-step-preserved : goal.loop-step-preserved
loop-step-preserved c =
    let l = c.loop-step in
    going_on c.args.rec.now c.args.n l.walk l.left l.invariant c.in_ok-step.step (rw c.in_ok-step.was at c.next_of.ensures) c.kind_number.result c.begins_item-begins.result
    c.kind_number.ensures c.begins_item-begins.ensures c.in-Some.more (sym c.in-Some.ensures)
