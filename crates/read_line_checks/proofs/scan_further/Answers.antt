-- `scan_further` meets its contract. Assumes nothing.
use Rattle.std.proofs.Common.{◌+◌, drop, sym, ◌∙◌, arith}
use Rattle.std.proofs.Common.{length-drop}
use Rattle.std.proofs.lemmas.Result.{err_from_is_err_and}
use Rattle.rules.specs.Lines.{lines_of, continuation, record_size}
use Rattle.rules.specs.Verdict.{good_lines}
use Rattle.base_codes.specs.CodeMeaning.{code_meant}
use Rattle.read_lines.specs.LineLengths.{first_line, first_record}
use Rattle.read_lines.proofs.LineLengthLaws.{line-some, line-fits}
use Rattle.read_lines.proofs.LineLaws.{next-is, further-some}
use Rattle.read_line_checks.proofs.LineCheckLaws.{line-fine, good-code, code-88, first-go, further-end, further-stop, further-go}
use Rattle.read_line_checks.proofs.scan_further.Goals as goal

pub loop-at-init : goal.loop-at-init
loop-at-init c =
    let a = c.args in let p = c.requires in let m = line-some a.s.now p.0 in let f = line-fits a.s.now in
    (omega arith, omega arith, omega arith, omega arith, first-go a.limit a.s.now p.0 (code_meant a.first.code) a.first.next.0 p.1.0 (omega arith))

pub clean_line-requires : goal.clean_line-requires
clean_line-requires c = further-some c.args.s.now c.loop-at.at (sym c.begins.ensures ∙ c.loop-at-test.true)

pub returns-in_err-e : goal.returns-in_err-e
returns-in_err-e c =
    let a = c.args in
    let at = c.loop-at.at in
    let t = sym c.begins.ensures ∙ c.loop-at-test.true in
    let l = length-drop at a.s.now in
    let g = rw c.in_err-e.was at c.clean_line.ensures in
    let p = err_from_is_err_and c.from_residual.result c.from_residual.ensures.1 in
    rw (p.1, p.2) (record { stops = further-stop a.s.now at t a.limit (first_record (lines_of a.s.now)) c.loop-at.n c.loop-at.invariant.4 _ g.0; some_byte = c.requires.0; within = omega arith })

pub loop-at-smaller : goal.loop-at-smaller
loop-at-smaller c =
    let s = c.args.s.now in let at = c.loop-at.at in
    let t = sym c.begins.ensures ∙ c.loop-at-test.true in
    let g = rw c.in_ok-e.was at c.clean_line.ensures in
    let n = next-is s at c.in_ok-e.e.0 (c.in_ok-e.e.0 + c.end_len.result) g.1 (rw c.end_len.ensures) in
    let l = length-drop at s in let h = further-some s at t in
    let m = line-some (drop at s) (omega arith) in
    omega arith

pub loop-at-preserved : goal.loop-at-preserved
loop-at-preserved c =
    let a = c.args in let s = c.args.s.now in let at = c.loop-at.at in let next = c.in_ok-e.e.0 + c.end_len.result in
    let t = sym c.begins.ensures ∙ c.loop-at-test.true in
    let g = rw c.in_ok-e.was at c.clean_line.ensures in
    let n = next-is s at c.in_ok-e.e.0 next g.1 (rw c.end_len.ensures) in
    let l = length-drop at s in let h = further-some s at t in
    let m = line-some (drop at s) (omega arith) in let f = line-fits (drop at s) in (
      omega arith,
      omega arith,
      omega arith,
      omega arith,
      further-go s at t a.limit (first_record (lines_of s)) c.loop-at.n c.loop-at.invariant.4 continuation next
          (line-fine at a.limit (first_line (drop at s)) g.0 continuation (sym (code-88 (drop at s) t))) n,
    )

pub returns : goal.returns
unfolding good_lines record_size
returns c =
    let a = c.args in let at = c.loop-at.at in
    let e = further-end a.s.now at a.limit (first_record (lines_of a.s.now)) c.loop-at.n (sym c.begins.ensures ∙ c.loop-at-test.false) c.loop-at.invariant.4 in
    record {
      good = e.checks;
      code = good-code 0 a.limit (first_line a.s.now) (code_meant a.first.code) c.requires.1.0;
      count = omega (arith, e.count);
      extent = omega (arith, e.size);
      some-line = omega arith;
      few = omega arith;
      fits = omega arith;
    }
