-- `good_line` meets its contract. Assumes nothing.
use Rattle.std.proofs.Common.{◌+◌, ap, sym, ◌∙◌, drop, arith}
use Rattle.base_codes.specs.CodeMeaning.{code_meant}
use Rattle.read_lines.specs.LineLengths.{first_line}
use Rattle.read_lines.specs.LineAnswers.{code_found}
use Rattle.read_lines.proofs.LineLaws.{next-is}
use Rattle.read_line_checks.proofs.LineCheckLaws.{line_code, line-fine}
use Rattle.read_line_checks.proofs.good_line.Goals as goal

pub returns-in_default : goal.returns-in_default
returns-in_default c =
    let a = c.args in
    let g = rw c.in_ok-e.was at c.clean_line.ensures in
    rw c.at.ensures (line_code a.start.0 a.limit (first_line (drop a.start.0 a.s.now)) g.0 (ap code_found (sym c.in_default.is) ∙ c.code_at.ensures), omega arith)

pub returns : goal.returns
returns c =
    let a = c.args in
    let e = c.in_ok-e.e.0 in
    let g = rw c.in_ok-e.was at c.clean_line.ensures in (
      line-fine a.start.0 a.limit (first_line (drop a.start.0 a.s.now)) g.0 (code_meant c.in-Some.code) (ap code_found (sym c.in-Some.is) ∙ c.code_at.ensures),
      next-is a.s.now a.start.0 e (e + c.end_len.result) g.1 (rw c.end_len.ensures),
    )
