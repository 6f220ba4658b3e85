-- `part_groups::nth_part` meets its contract. Assumes nothing.
use native.Mathlib.Omega.{arith}
use Rattle.std.proofs.lemmas.Result.{err_from_is_err_and}
use Rattle.base_codes.specs.CodeMeaning.{code_meant}
use Rattle.part_groups.proofs.PartTurns.{started, hit, go, missed}
use Rattle.part_groups.proofs.nth_part.Goals as goal

pub loop-init : goal.loop-init
loop-init c = (omega (arith, c.record_end-start.ensures.1), started _ _ _ _ _ _ (omega arith) c.record_end-start.ensures.0)

pub part_end-requires : goal.part_end-requires
part_end-requires c = c.loop.invariant.0

pub returns-in_err-start : goal.returns-in_err-start
returns-in_err-start c =
    let a = c.args in
    let p = err_from_is_err_and c.from_residual.result c.from_residual.ensures.1 in
    let g = rw c.in_err-start.was at c.part_end.ensures in
    rw (p.1, p.2)
    (record {
      found = λ e. missed (code_meant a.opening) (code_meant a.closing) e.others e.apart c.in_err-start.field-0.0 a.s.now _ c.loop.start.0 _ g (c.loop.invariant.1 e);
      inside = omega arith;
    })

pub loop-preserved : goal.loop-preserved
loop-preserved c =
    let a = c.args in
    let g = rw c.in_ok-start.was at c.part_end.ensures in (
      g.within,
      λ e. go (code_meant a.opening) (code_meant a.closing) e.others e.apart a.s.now c.loop.start.0 c.in_ok-start.start.0 g _ _ _ (omega (arith, c.loop-test.true)) (c.loop.invariant.1 e),
    )

pub part_end-requires-2 : goal.part_end-requires-2
part_end-requires-2 c = c.loop.invariant.0

pub returns-in_err-end : goal.returns-in_err-end
returns-in_err-end c =
    let a = c.args in
    let p = err_from_is_err_and c.from_residual-in_err-end.result c.from_residual-in_err-end.ensures.1 in
    let g = rw c.in_err-end.was at c.part_end-2.ensures in
    rw (p.1, p.2)
    (record {
      found = λ e. missed (code_meant a.opening) (code_meant a.closing) e.others e.apart c.in_err-end.field-0.0 a.s.now _ c.loop.start.0 _ g (c.loop.invariant.1 e);
      inside = omega arith;
    })

pub returns : goal.returns
returns c =
    let a = c.args in
    let g = rw c.in_ok-end.was at c.part_end-2.ensures in
    record {
      found = λ e.
          hit (code_meant a.opening) (code_meant a.closing) e.others e.apart a.s.now c.loop.start.0 c.in_ok-end.end.0 g _ _ (omega (arith, c.loop-test.false)) (c.loop.invariant.1 e);
      inside = omega (arith, g.past, g.within);
    }
