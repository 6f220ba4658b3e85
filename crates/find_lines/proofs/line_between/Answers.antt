-- `find_lines::line_between`: at a byte after which such a line begins, and at any other. Assumes nothing.
use native.Mathlib.Omega.{arith}
use mathlib.Core.Path.{sym, ◌∙◌}
use Rattle.base_codes.specs.CodeMeaning.{bytes_meant}
use Rattle.find_lines.proofs.LineSearch.{ahead-stop, begins-after, ahead_step}
use Rattle.find_lines.proofs.line_between.Goals as goal

pub returns-then-ends_before_line : goal.returns-then-ends_before_line
returns-then-ends_before_line c =
    let a = c.args in
    let l = c.loop-i in
    let ends = sym c.ends_before_line.ensures ∙ c.if-ends_before_line.true in (
      sym (l.invariant ∙ ahead-stop (bytes_meant a.x) (bytes_meant a.y) a.s.now l.i (omega arith) ends),
      begins-after (bytes_meant a.x) (bytes_meant a.y) a.s.now l.i (omega arith) ends,
      omega arith,
    )

pub loop-i-preserved : goal.loop-i-preserved
loop-i-preserved c =
    let a = c.args in
    let l = c.loop-i in
    l.invariant ∙ ahead_step (bytes_meant a.x) (bytes_meant a.y) a.s.now l.i (omega arith) (sym c.ends_before_line.ensures ∙ c.if-ends_before_line.false)
