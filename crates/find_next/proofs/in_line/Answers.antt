-- `find_next::in_line`: the record's end, and its next line. Assumes nothing.
use Prim.Native.Nat.{ℕ, ◌+◌}
use native.Mathlib.Omega.{arith}
use mathlib.Core.Path.{refl, sym, ap, ◌∙◌}
use Rattle.std.proofs.lemmas.Result.{err_from_is_err_and}
use Rattle.read_lines.proofs.LineLaws.{next-is, next-within}
use Rattle.find_next.proofs.OwnLines.{flip, own-some}
use Rattle.find_next.proofs.CursorLaws.{end_refused, end-over, short-enters, line-enters}
use Rattle.find_next.proofs.in_line.Goals as goal

pub returns-in_err-at_end : goal.returns-in_err-at_end
returns-in_err-at_end c =
    let a = c.args in
    let p = err_from_is_err_and c.from_residual.result c.from_residual.ensures.1 in
    rw (p.1, p.2) (end_refused a.rec.now a.least a.walk c.if-walk.false c.in_err-at_end.field-0.0 (sym c.is_own.ensures ∙ flip _ _ c.if-not-is_own.true-raw) (rw c.in_err-at_end.was at c.at_end.ensures))

pub returns-then-not-is_own : goal.returns-then-not-is_own
returns-then-not-is_own c =
    let a = c.args in
    end-over a.rec.now a.least a.walk c.if-walk.false (sym c.is_own.ensures ∙ flip _ _ c.if-not-is_own.true-raw) c.in_ok-at_end.ensures

pub returns-then-end-at : goal.returns-then-end-at
returns-then-end-at c =
    let a = c.args in
    short-enters a.rec.now a.least a.walk c.if-walk.false (sym c.is_own.ensures ∙ flip _ _ c.if-not-is_own.false-raw) c.body_end-end.result.0 _ c.body_end-end.ensures.0 refl _ c.at.ensures c.if-end-at.true

pub returns : goal.returns
returns c =
    let a = c.args in
    let own = sym c.is_own.ensures ∙ flip _ _ c.if-not-is_own.false-raw in
    let e = c.body_end-end.result.0 in
    let n = e + c.end_len.result in
    let sum = ap (λ (k : ℕ). e + k) c.end_len.ensures in
    line-enters a.rec.now a.least a.walk c.if-walk.false own e n c.body_end-end.ensures.0
    (next-is a.rec.now a.walk.line.0 e n c.body_end-end.ensures.0 sum)
    (omega arith) (omega arith)
    (omega (arith, own-some a.rec.now a.least a.walk.line.0 own, next-within a.rec.now a.walk.line.0 e n c.body_end-end.ensures.0 sum))
