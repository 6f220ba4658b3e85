-- `find_lines::next_line_of`: a line of either code that starts there, none left, and the next one. Assumes nothing.
use native.Mathlib.Omega.{arith}
use mathlib.Core.Path.{sym, ap₂, ◌∙◌}
use lib.ListN.{drop}
use Rattle.rules.specs.Bytes.{Bytes}
use Rattle.base_codes.specs.CodeMeaning.{code_meant}
use Rattle.find_lines.specs.LinesOfCode.{begins_either, ahead_len}
use Rattle.find_lines.proofs.LineSearch.{before_here, before-ahead, before-none}
use Rattle.find_lines.proofs.next_line_of.Goals.{then-s-start-via-then-s-start, then-s-start-via-else-s-start+then-begins_either}
use Rattle.find_lines.proofs.next_line_of.Goals as goal

pub returns-then-s-start : goal.returns-then-s-start
returns-then-s-start c =
    let a = c.args in
    let left = drop a.start.0 a.s.now in
    elim c.then-s-start.branch [
      | then-s-start-via-then-s-start w ↦
          let e = before-none (code_meant a.one) (code_meant a.other) a.s.now a.start.0 w.if-s-start.true in
          (omega arith, omega arith)
      | then-s-start-via-else-s-start+then-begins_either w ↦
          let told = sym (ap₂ (λ (x y : Bytes). begins_either x y left) c.digits_of-x.ensures c.digits_of-y.ensures) ∙ sym w.begins_either.ensures ∙ w.if-begins_either.true in
          let e = before_here (code_meant a.one) (code_meant a.other) left told in
          (omega arith, omega arith)
    ]

pub returns : goal.returns
returns c =
    let a = c.args in
    let left = drop a.start.0 a.s.now in
    let told = sym (ap₂ (λ (x y : Bytes). begins_either x y left) c.digits_of-x.ensures c.digits_of-y.ensures) ∙ sym c.begins_either.ensures ∙ c.if-begins_either.false in
    let e = before-ahead (code_meant a.one) (code_meant a.other) left told in
    let same = ap₂ (λ (x y : Bytes). ahead_len x y left) c.digits_of-x.ensures c.digits_of-y.ensures in
    (omega (arith, c.line_after.ensures.0), omega (arith, c.line_after.ensures.1))
