-- `clean_line` meets its contract. Assumes nothing.
use Rattle.std.proofs.Common.{arith, ap, sym, ◌∙◌, drop}
use Rattle.std.proofs.Common.{length-drop}
use Rattle.rules.specs.Outcome.{refuse}
use Rattle.read_lines.proofs.LineLaws.{body-from}
use Rattle.read_line_checks.proofs.LineCheckLaws.{line-long, line-byte, line_clean}
use Rattle.read_line_checks.proofs.clean_line.Goals as goal

pub returns-then-limit-e : goal.returns-then-limit-e
returns-then-limit-e c =
    let a = c.args in let xs = drop a.start.0 a.s.now in let l = length-drop a.start.0 a.s.now in
    let e = body-from a.s.now a.start.0 c.plain_end-i.result.0 126 c.plain_end-i.ensures.0 in
    rw c.at.ensures (line-long xs a.start.0 a.limit (omega arith), omega arith)

pub returns-then-i-e : goal.returns-then-i-e
returns-then-i-e c =
    let a = c.args in let xs = drop a.start.0 a.s.now in let l = length-drop a.start.0 a.s.now in
    let p = c.plain_end-i.ensures.0 in
    let e = body-from a.s.now a.start.0 c.plain_end-i.result.0 126 p in
    rw c.at-then-i-e.ensures (line-byte xs a.start.0 a.limit (omega arith) (omega arith) ∙ ap (refuse 4) (sym p), omega arith)

pub returns : goal.returns
returns c =
    let a = c.args in
    let e = body-from a.s.now a.start.0 c.plain_end-i.result.0 126 c.plain_end-i.ensures.0 in
    (line_clean (drop a.start.0 a.s.now) a.start.0 a.limit (omega arith) (omega arith), omega arith)
