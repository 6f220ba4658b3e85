-- `read_order::allows` meets its contract: a code is among those expected where it is one of them. Assumes nothing.
use Rattle.std.proofs.Common.{sym, ◌∙◌, rules}
use Rattle.rules.specs.Order.{among}
use Rattle.base_codes.proofs.SameCodes.{same_codes}
use Rattle.read_order.proofs.OrderLaws.{or-false}
use Rattle.read_order.proofs.allows.Goals as goal

pub returns-in-Nothing : goal.returns-in-Nothing
unfolding among
returns-in-Nothing c = search rules

pub returns-in-One : goal.returns-in-One
unfolding among
returns-in-One c = rw c.in-One.is (c.eq.ensures ∙ same_codes _ _ ∙ or-false _)

pub returns-then-eq : goal.returns-then-eq
unfolding among
returns-then-eq c = rw c.in-Either.is (let e = sym (same_codes _ _) ∙ sym c.eq-in-Either.ensures ∙ c.if-eq.true in rw e c.if-eq.true)

pub returns-else-eq : goal.returns-else-eq
unfolding among
returns-else-eq c =
    rw c.in-Either.is (let e = sym (same_codes _ _) ∙ sym c.eq-in-Either.ensures ∙ c.if-eq.false in rw e (c.eq-else-eq.ensures ∙ same_codes _ _ ∙ or-false _))
