-- `record_end` meets its contract. Assumes nothing.
use Rattle.std.proofs.Common.{sym, ◌∙◌, arith}
use Rattle.read_lines.proofs.LineLaws.{record-start}
use Rattle.read_lines.proofs.record_end.Goals as goal

pub returns : goal.returns
returns c =
    let a = c.args in
    let next = c.next_line in
    let further = c.further_lines.ensures in
    (further.ends ∙ sym (record-start a.s.now a.start.0 next.result.0 next.ensures.0), omega (arith, further.within, next.ensures.1))
