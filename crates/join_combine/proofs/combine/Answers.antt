-- `join_combine::combine` meets its contract. Assumes nothing.
use Prim.Native.Nat.{ℕ}
use mathlib.Core.Path.{◌≡◌, ap, ◌∙◌}
use Rattle.std.proofs.lemmas.Result.{err_from_is_err_and}
use Rattle.rules.specs.Outcome.{refused}
use Rattle.rules.specs.Combine.{answered}
use Rattle.base_refusals.specs.RefusalMeaning.{refusal_meant}
use Rattle.join_combine.proofs.CombineLaws.{refused-told, first-refused, second-refused, both-accepted}
use Rattle.join_combine.proofs.combine.Goals as goal

pub returns-in_err-judge : goal.returns-in_err-judge
returns-in_err-judge c =
    let a = c.args in
    let why = c.in_err-judge.field-0.0 in
    let p = err_from_is_err_and c.from_residual.result c.from_residual.ensures.1 in
    let q = c.in_err-judge.ensures in
    rw (p.1, p.2)
    (refused-told why a.out.now ∙ ap (λ (n : ℕ). answered (refused (refusal_meant why.refusal)) n a.out.now) q.1 ∙ first-refused a.a.now a.b.now a.out.now _ q.0)

pub returns-in_err-judge-2 : goal.returns-in_err-judge-2
returns-in_err-judge-2 c =
    let a = c.args in
    let why = c.in_err-judge-2.field-0.0 in
    let p = err_from_is_err_and c.from_residual-in_err-judge-2.result c.from_residual-in_err-judge-2.ensures.1 in
    let q = c.in_err-judge-2.ensures in
    rw (p.1, p.2)
    (refused-told why a.out.now ∙ ap (λ (n : ℕ). answered (refused (refusal_meant why.refusal)) n a.out.now) q.1
    ∙ second-refused a.a.now a.b.now a.out.now _ c.in_ok-judge.ensures.accepts _ q.0)

pub returns : goal.returns
returns c =
    let a = c.args in
    c.combine_accepted.ensures ∙ both-accepted a.a.now a.b.now a.out.now _ c.in_ok-judge.ensures.accepts _ c.in_ok-judge-2.ensures.accepts
