-- `Kept::add_amount`: an amount is added, or it passes the largest. Assumes nothing.
use Prim.Native.Nat.{ℕ, ◌+◌}
use mathlib.Core.Path.{ap, sym, ◌∙◌}
use lib.Dec.{ltb}
use borrow.Author.Tests.{ltb-true, ltb-false}
use Rattle.rules.specs.Amounts.{Amount}
use Rattle.rules.specs.Limits.{most}
use Rattle.base_amounts.specs.AmountsRead.{amount_meant}
use Rattle.read_kept.specs.KeepFields.{amounts_of, with_amounts, added_to}
use Rattle.read_kept.proofs.AddAmounts.{add-over, add-past, add-more}
use Rattle.read_kept.proofs.Kept.add_amount.Goals as goal

pub returns-then-is_some : goal.returns-then-is_some
returns-then-is_some c = let k = c.args.self in ap (with_amounts k) (add-over _ (amounts_of k) _ _ (sym c.is_some.ensures ∙ c.if-is_some.true))

pub returns-then-passes : goal.returns-then-passes
returns-then-passes c =
    let x = c.args in
    let a = amount_meant c.amount_in-a.result in
    let size = λ (n : ℕ). ltb most (x.self.before.0 + (x.self.sum.0 + x.self.sum.1) + n) in
    ap (with_amounts x.self) (add-past _ (amounts_of x.self) x.at.0 a (sym c.is_some.ensures ∙ c.if-is_some.false) (ltb-true most _ (sym (c.passes.ensures ∙ ap size c.magnitude_of.ensures) ∙ c.if-passes.true)))
    ∙ ap (λ (b : Amount). added_to x.self x.at.0 b) c.amount_in-a.ensures

pub returns : goal.returns
returns c =
    let x = c.args in
    let a = amount_meant c.amount_in-a.result in
    let size = λ (n : ℕ). ltb most (x.self.before.0 + (x.self.sum.0 + x.self.sum.1) + n) in
    ap (with_amounts x.self)
    (add-more _ (amounts_of x.self) x.at.0 a (sym c.is_some.ensures ∙ c.if-is_some.false) (ltb-false most _ (sym (c.passes.ensures ∙ ap size c.magnitude_of.ensures) ∙ c.if-passes.false))
    c.add-kept.result c.adds.result c.adds.ensures c.add-kept.ensures)
    ∙ ap (λ (b : Amount). added_to x.self x.at.0 b) c.amount_in-a.ensures
