-- `part_groups::part_within` meets its contract. Assumes nothing.
use native.Mathlib.Omega.{arith}
use mathlib.Core.Path.{refl}
use Rattle.std.specs.Prelude.{Ok, Err}
use Rattle.std.proofs.lemmas.Result.{err_from_is_err_and}
use Rattle.base_codes.specs.CodeMeaning.{code_meant}
use Rattle.part_groups.specs.PartMeaning.{part_meant}
use Rattle.part_groups.proofs.PartsMoved.{some_number, inner-fits, inner-refused, inner-found}
use Rattle.part_groups.proofs.part_within.Goals as goal

pub returns-in_err-inner : goal.returns-in_err-inner
returns-in_err-inner c =
    let a = c.args in
    let why = c.in_err-inner.field-0.0 in
    let p = err_from_is_err_and c.from_residual.result c.from_residual.ensures.1 in
    let f = rw c.bytes.ensures at (rw c.in_err-inner.was at c.nth_part.ensures) in
    rw (p.1, p.2)
    (record {
      found = inner-refused (code_meant a.opening) (code_meant a.closing) a.file.now a.n (part_meant (Ok a.outer)) (part_meant (Err why)) refl f (some_number why);
      inside = omega arith;
    })

pub overflow_add-result : goal.overflow_add-result
overflow_add-result c =
    let a = c.args in
    let f = rw c.bytes.ensures at (rw c.in_ok-inner.was at c.nth_part.ensures) in
    omega (arith, c.well_formed, inner-fits (code_meant a.opening) (code_meant a.closing) a.file.now a.n (part_meant (Ok a.outer)) (part_meant (Ok c.in_ok-inner.inner)) refl f c.requires)

pub returns : goal.returns
returns c =
    let a = c.args in
    let f = rw c.bytes.ensures at (rw c.in_ok-inner.was at c.nth_part.ensures) in
    record {
      found = inner-found (code_meant a.opening) (code_meant a.closing) a.file.now a.n (part_meant (Ok a.outer)) (part_meant (Ok c.in_ok-inner.inner)) refl f refl;
      inside =
          omega (arith, inner-fits (code_meant a.opening) (code_meant a.closing) a.file.now a.n (part_meant (Ok a.outer)) (part_meant (Ok c.in_ok-inner.inner)) refl f c.requires);
    }
