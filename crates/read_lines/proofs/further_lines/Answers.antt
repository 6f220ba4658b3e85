-- `further_lines` meets its contract. Assumes nothing.
use Rattle.std.proofs.Common.{sym, ◌∙◌, drop, length-drop, arith}
use Rattle.rules.specs.Lines.{record_size}
use Rattle.read_lines.proofs.LineLengthLaws.{line-some}
use Rattle.read_lines.proofs.LineLaws.{further-some, further-none, further-size, further-count}
use Rattle.read_lines.proofs.further_lines.Goals as goal

pub loop-end-preserved : goal.loop-end-preserved
loop-end-preserved c =
    let s = c.args.s.now in let at = c.loop-end.end.0 in
    let t = sym c.begins.ensures ∙ c.loop-end-test.true in
    let some = further-some s at t in
    let l = length-drop at s in
    let m = line-some (drop at s) (omega arith) in
    let i = c.loop-end.invariant in
    let next = c.next_line-end in (
      omega (arith, next.ensures.1),
      i.1 ∙ further-size s at t next.result.0 next.ensures.0,
      omega (arith, i.2, further-count s at t next.result.0 next.ensures.0),
      omega (arith, i.3, next.ensures.0),
    )

pub loop-end-smaller : goal.loop-end-smaller
loop-end-smaller c =
    let s = c.args.s.now in let at = c.loop-end.end.0 in
    let t = sym c.begins.ensures ∙ c.loop-end-test.true in
    let some = further-some s at t in
    let l = length-drop at s in
    let m = line-some (drop at s) (omega arith) in
    omega (arith, c.next_line-end.ensures.0)

pub overflow_add-n : goal.overflow_add-n
overflow_add-n c =
    let s = c.args.s.now in let at = c.loop-end.end.0 in
    let t = sym c.begins.ensures ∙ c.loop-end-test.true in
    let some = further-some s at t in
    omega (arith, c.loop-end.invariant.3)

pub returns : goal.returns
unfolding record_size
returns c =
    let s = c.args.s.now in
    let l = c.loop-end in
    let over = further-none s l.end.0 (sym c.begins.ensures ∙ c.loop-end-test.false) in
    let size = rw over at l.invariant.1 in
    let count = rw over at l.invariant.2 in
    record { count = omega (arith, count); ends = omega (arith, size); within = l.invariant.0; few = l.invariant.3 }
