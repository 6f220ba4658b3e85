-- `part_records::record_at` meets its contract. Assumes nothing.
use native.Mathlib.Omega.{arith}
use mathlib.Core.Path.{sym, ap, ◌∙◌}
use Rattle.read_lines.specs.LineAnswers.{code_found}
use Rattle.part_records.proofs.FoundLaws.{past_finds, uncoded-finds, coded-finds}
use Rattle.part_records.proofs.record_at.Goals as goal

pub returns-then-file-start : goal.returns-then-file-start
returns-then-file-start c = rw c.nowhere.ensures (past_finds c.args.file.now c.args.start.0 c.if-file-start.true)

pub returns-in_default : goal.returns-in_default
returns-in_default c =
    rw c.at.ensures (uncoded-finds c.args.file.now c.args.start.0 c.if-file-start.false (sym (ap code_found c.in_default.is) ∙ c.code_at.ensures))

pub returns : goal.returns
returns c =
    let a = c.args in
    let n = c.next_line in
    let f = c.further_lines-further in
    coded-finds a.file.now a.start.0 c.if-file-start.false _ (sym (ap code_found c.in-Some.is) ∙ c.code_at.ensures)
    n.result.0 f.result.count.0 f.result.end.0 n.ensures.0 f.ensures.count f.ensures.ends
    (omega (arith, n.ensures.1, f.ensures.within, c.if-file-start.false)) (omega (arith, n.ensures.0, f.ensures.few))
