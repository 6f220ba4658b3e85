-- `body_end` meets its contract. Assumes nothing.
use Rattle.std.proofs.Common.{◌+◌, ◌∙◌, drop, arith}
use Rattle.read_lines.specs.LineLengths.{is_end, end_of}
use Rattle.read_lines.proofs.RunLengths.{run_none, run-stop, run_step, is-end-at, end-some, end_empty}
use Rattle.read_lines.proofs.LineLaws.{body-from}
use Rattle.read_lines.proofs.body_end.Goals as goal

pub returns-then-end_len-gt0 : goal.returns-then-end_len-gt0
returns-then-end_len-gt0 c =
    let i = c.loop-i.i in
    let s = c.args.s.now in
    let h = run-stop is_end s i (omega arith) (is-end-at s i (omega arith) ∙ end-some (end_of (drop i s)) (omega (arith, c.end_len.ensures))) in
    (omega arith, omega arith)

pub loop-i-preserved : goal.loop-i-preserved
loop-i-preserved c =
    let i = c.loop-i.i in
    let s = c.args.s.now in
    let h = run_step is_end s i (omega arith) (is-end-at s i (omega arith) ∙ end_empty (end_of (drop i s)) (omega (arith, c.end_len.ensures))) in
    let f = body-from s (i + 1) c.plain_end-i.result.0 255 c.plain_end-i.ensures.0 in
    (omega arith, omega arith)

pub returns : goal.returns
returns c =
    let h = run_none is_end c.args.s.now c.loop-i.i (omega arith) in
    (omega arith, omega arith)
