-- `next_line` meets its contract. Assumes nothing.
use Rattle.std.proofs.Common.{◌+◌}
use Rattle.read_lines.proofs.LineLaws.{next-is, next-within}
use Rattle.read_lines.proofs.next_line.Goals as goal

pub returns : goal.returns
returns c =
    let a = c.args in let e = c.body_end-e.result.0 in let p = c.body_end-e.ensures.0 in
    (next-is a.s.now a.start.0 e (e + c.end_len.result) p (rw c.end_len.ensures), next-within a.s.now a.start.0 e (e + c.end_len.result) p (rw c.end_len.ensures))
