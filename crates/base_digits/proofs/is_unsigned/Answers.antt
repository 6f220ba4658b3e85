-- The goals of `is_unsigned`. Assumes nothing.
use Rattle.std.proofs.Common.{sym, ◌∙◌}
use Rattle.base_digits.proofs.SignLaws.{minus-refused, minus-absent}
use Rattle.base_digits.proofs.is_unsigned.Goals as goal

pub returns-then-not-is_negative : goal.returns-then-not-is_negative
returns-then-not-is_negative c = minus-absent _ _ (sym c.is_negative.ensures ∙ c.if-not-is_negative.true) c.is_signed.ensures

pub returns-else-not-is_negative : goal.returns-else-not-is_negative
returns-else-not-is_negative c = rw c.if-not-is_negative.false (minus-refused _ (sym c.is_negative.ensures ∙ c.if-not-is_negative.false))
