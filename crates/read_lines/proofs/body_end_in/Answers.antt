-- `body_end_in` meets its contract. Assumes nothing.
use Rattle.std.proofs.Common.{◌+◌}
use Rattle.read_lines.proofs.LineLaws.{body-in}
use Rattle.read_lines.proofs.body_end_in.Goals as goal

pub returns-then-e-end_len : goal.returns-then-e-end_len
returns-then-e-end_len c =
    let a = c.args in
    let e = c.body_end-e.result.0 in
    body-in a.s.now a.size a.start.0 e (e + c.end_len.result) c.body_end-e.ensures.0 (rw c.end_len.ensures) c.if-e-end_len.true
