-- `end_by_bytes` meets its contract. Assumes nothing.
use Rattle.std.proofs.Common.{sym, ◌∙◌, arith}
use Rattle.read_lines.specs.LineLengths.{stops_at}
use Rattle.read_lines.proofs.RunLengths.{run_none, run-stop, run_step}
use Rattle.read_lines.proofs.scan.end_by_bytes.Goals as goal

pub returns-then-outside : goal.returns-then-outside
returns-then-outside c =
    let a = c.args in
    let h = run-stop (stops_at a.high) a.s.now c.loop-i.i (omega arith) (sym c.outside.ensures ∙ c.if-outside.true) in
    (omega arith, omega arith)

pub loop-i-preserved : goal.loop-i-preserved
loop-i-preserved c =
    let a = c.args in
    let h = run_step (stops_at a.high) a.s.now c.loop-i.i (omega arith) (sym c.outside.ensures ∙ c.if-outside.false) in
    (omega arith, omega arith)

pub returns : goal.returns
returns c =
    let a = c.args in
    let h = run_none (stops_at a.high) a.s.now c.loop-i.i (omega arith) in
    (omega (arith, c.max.ensures), omega (arith, c.max.ensures))
