-- The goals of `without_sign`. Assumes nothing.
use Rattle.std.proofs.Common.{eq-eqb, ne_eqb, sym, ◌∙◌, arith}
use mathlib.Core.Bool.{or-true}
use Rattle.base_digits.proofs.SignLaws.{plus-is, sign-none, sign-cut, sign_kept}
use Rattle.base_digits.proofs.without_sign.Goals as goal
use Rattle.base_digits.proofs.without_sign.Goals.{else-f-gt0-via-then-f-gt0+else-f-eq45, then-f-eq43, else-f-eq43, else-f-gt0-via-else-f-gt0}

pub returns-then-f-eq45 : goal.returns-then-f-eq45
returns-then-f-eq45 c =
    sign-cut _ (omega arith)
    (elim c.if-f-eq43.branch [
      | then-f-eq43 w ↦ plus-is _ w.if-f-eq43.true
      | else-f-eq43 w ↦ rw (sym w.value-is ∙ c.if-f-eq45.true) (or-true _)
    ])

pub returns : goal.returns
returns c =
    elim c.else-f-gt0.branch [
      | else-f-gt0-via-then-f-gt0+else-f-eq45 w ↦ elim w.if-f-eq43.branch [
        | then-f-eq43 v ↦ let e = eq-eqb _ 43 v.if-f-eq43.true in cc
        | else-f-eq43 v ↦ sign_kept _ (omega (arith, w.if-f-gt0.true)) (rw (ne_eqb _ 43 v.if-f-eq43.false, sym v.value-is ∙ w.if-f-eq45.false))
      ]
      | else-f-gt0-via-else-f-gt0 w ↦ sign-none _ (omega (arith, w.if-f-gt0.false))
    ]
