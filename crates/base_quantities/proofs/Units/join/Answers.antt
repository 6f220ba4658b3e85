-- The goals of `Units::join`. Assumes nothing.
use Rattle.std.proofs.Common.{◌∙◌, arith}
use Rattle.base_quantities.proofs.UnitsLaws.{sum-within, sum-beyond}
use Rattle.base_quantities.proofs.Units.join.Goals as goal

pub returns-in_err-pluses : goal.returns-in_err-pluses
returns-in_err-pluses c = c.from_residual.ensures ∙ sum-beyond _ (omega (arith, c.in_err-pluses.ensures))

pub returns-in_err-minuses : goal.returns-in_err-minuses
returns-in_err-minuses c = c.from_residual-in_err-minuses.ensures ∙ sum-beyond _ (omega (arith, c.in_err-minuses.ensures))

pub returns-in_err-checked_add : goal.returns-in_err-checked_add
returns-in_err-checked_add c = c.from_residual-in_err-checked_add.ensures ∙ sum-beyond _ (omega (arith, c.in_err-checked_add.ensures))

pub returns-then-branch-gt-MOST : goal.returns-then-branch-gt-MOST
returns-then-branch-gt-MOST c = sum-beyond _ (omega arith)

pub returns : goal.returns
returns c = sum-within _ _ (omega arith) (omega arith) (omega arith)
