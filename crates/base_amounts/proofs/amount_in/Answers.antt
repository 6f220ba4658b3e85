-- The goals of `amount_in`. Assumes nothing.
use Rattle.std.proofs.Common.{ap, ◌∙◌}
use Rattle.base_digits.specs.NumbersRead.{value_of}
use Rattle.base_amounts.proofs.AmountLaws.{read_none, read-plus, read-minus, read-unsigned}
use Rattle.base_amounts.proofs.amount_in.Goals as goal

pub returns-in-None : goal.returns-in-None
returns-in-None c = read_none _ c.in-None.ensures.value

pub returns-in-Some-eq43 : goal.returns-in-Some-eq43
returns-in-Some-eq43 c = let a = c.in-Some-eq43 in read-plus _ _ _ a.ensures.value (c.value.ensures.0 ∙ ap value_of c.without_sign.ensures) a.field-0-test

pub returns-in-Some-eq45 : goal.returns-in-Some-eq45
returns-in-Some-eq45 c = let a = c.in-Some-eq45 in read-minus _ _ _ a.ensures.value (c.value.ensures.0 ∙ ap value_of c.without_sign.ensures) a.field-0-test

pub returns-in-Some : goal.returns-in-Some
returns-in-Some c = let a = c.in-Some in read-unsigned _ _ _ a.ensures.value (c.value.ensures.0 ∙ ap value_of c.without_sign.ensures) a.field-0-test.0.1 a.field-0-test.1
