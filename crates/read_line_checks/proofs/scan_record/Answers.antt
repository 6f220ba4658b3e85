-- `scan_record` meets its contract. Assumes nothing.
use Rattle.std.proofs.Common.{arith}
use Rattle.std.proofs.lemmas.Result.{err_from_is_err_and}
use Rattle.read_line_checks.proofs.LineCheckLaws.{first-stop}
use Rattle.read_line_checks.proofs.scan_record.Goals as goal

pub returns-in_err-first : goal.returns-in_err-first
returns-in_err-first c =
    let a = c.args in
    let g = rw c.in_err-first.was at c.good_line.ensures in
    let p = err_from_is_err_and c.from_residual.result c.from_residual.ensures.1 in
    rw (p.1, p.2) (record { stops = first-stop a.limit a.s.now (omega arith) _ g.0; some_byte = omega arith; within = omega (arith, g.1) })
