-- `none_longer` meets its contract. Assumes nothing.
use Rattle.std.proofs.Common.{◌+◌, sym, ◌∙◌, arith}
use Rattle.read_lines.proofs.LineLaws.{next-is, next-after, next-within}
use Rattle.read_line_checks.proofs.LineCheckLaws.{short-end, short-stop, short-go}
use Rattle.read_line_checks.proofs.none_longer.Goals as goal

pub returns-then-limit-e : goal.returns-then-limit-e
returns-then-limit-e c =
    let a = c.args in
    rw c.at.ensures (sym (c.loop-start.invariant.1 ∙ short-stop a.s.now c.loop-start.start a.limit (omega arith) (omega arith)), omega arith)

pub loop-start-smaller : goal.loop-start-smaller
loop-start-smaller c =
    let a = c.args in let at = c.loop-start.start in let e = c.body_end-e.result.0 in
    let h = next-after a.s.now at e (e + c.end_len.result) c.body_end-e.ensures.0 (rw c.end_len.ensures) (omega arith) in
    omega arith

pub loop-start-preserved : goal.loop-start-preserved
loop-start-preserved c =
    let a = c.args in let at = c.loop-start.start in let e = c.body_end-e.result.0 in let p = c.body_end-e.ensures.0 in
    let w = next-within a.s.now at e (e + c.end_len.result) p (rw c.end_len.ensures) in
    (omega arith, c.loop-start.invariant.1 ∙ short-go a.s.now at a.limit (omega arith) (e + c.end_len.result) (omega arith) (next-is a.s.now at e (e + c.end_len.result) p (rw c.end_len.ensures)))

pub returns : goal.returns
returns c =
    let a = c.args in
    (sym (c.loop-start.invariant.1 ∙ short-end a.s.now c.loop-start.start a.limit (omega arith)), tt)
