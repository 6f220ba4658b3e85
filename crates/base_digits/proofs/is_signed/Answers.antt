-- The goal of `is_signed`. Assumes nothing.
use Rattle.std.proofs.Common.{ap, ◌∙◌}
use Rattle.rules.specs.Numbers.{digits}
use Rattle.rules.specs.Grammar.{is_signed}
use Rattle.base_digits.proofs.is_signed.Goals as goal

pub returns : goal.returns
unfolding is_signed
returns c = c.is_digits.ensures ∙ ap (digits 1 18) c.without_sign.ensures
