-- The goals of `one`. Assumes nothing.
use Rattle.std.proofs.Common.{sym, ◌∙◌}
use Rattle.base_codes.proofs.SameCodes.{same_codes}
use Rattle.base_totals.proofs.one.Goals as goal

pub returns-then-eq : goal.returns-then-eq
returns-then-eq c = sym (rw (sym (c.eq.ensures ∙ same_codes _ _) ∙ c.if-eq.true))

pub returns : goal.returns
returns c = sym (rw (sym (c.eq.ensures ∙ same_codes _ _) ∙ c.if-eq.false))
