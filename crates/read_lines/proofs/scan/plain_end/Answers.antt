-- `plain_end` meets its contract. Assumes nothing.
use Rattle.std.proofs.Common.{arith}
use Rattle.read_lines.specs.LineLengths.{stops_at}
use Rattle.read_lines.proofs.RunLengths.{run_none}
use Rattle.read_lines.proofs.scan.plain_end.Goals as goal

pub returns-then-n-lt64 : goal.returns-then-n-lt64
returns-then-n-lt64 c =
    let e = c.block-n.ensures.found c.if-n-lt64.true in
    (omega arith, omega arith)

pub loop-i-preserved : goal.loop-i-preserved
loop-i-preserved c =
    let m = c.block-n.ensures.missed (omega arith) in
    (omega arith, omega arith)

pub returns : goal.returns
returns c =
    let a = c.args in let h = run_none (stops_at a.high) a.s.now c.loop-i.i (omega arith) in
    (omega arith, omega arith)
