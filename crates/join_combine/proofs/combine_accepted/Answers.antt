-- `join_combine::combine_accepted` meets its contract. Assumes nothing.
use Prim.Native.Nat.{ℕ}
use native.Mathlib.Nat.{zero-add}
use mathlib.Core.Path.{◌≡◌, sym, ap, ◌∙◌}
use Rattle.std.specs.Prelude.{Result, Err}
use Rattle.std.proofs.lemmas.Result.{err_from_is_err_and}
use Rattle.rules.specs.Outcome.{refused}
use Rattle.rules.specs.Parts.{groups_in}
use Rattle.rules.specs.Combine.{answered, lines_within, concat}
use Rattle.base_quantities.specs.declared.Units.{Units}
use Rattle.base_quantities.proofs.UnitsLaws.{within-is, within-most, beyond-most}
use Rattle.base_refusals.specs.declared.Refusal.{Refusal}
use Rattle.base_refusals.specs.RefusalMeaning.{refusal_meant}
use Rattle.base_totals.specs.SummaryMeaning.{summary_meant}
use Rattle.join_combine.specs.declared.Refused.{Refused}
use Rattle.join_combine.proofs.CombineLaws.{refused-told, too_large, too_wide, to-fit, last-inside, header-first, groups-within, same_lines}
use Rattle.join_combine.proofs.combine_accepted.Goals as goal

same_err : (x y : Refusal) → ◌≡◌ {A = Result Units Refusal} (Err x) (Err y) → x ≡ y
same_err x y e = cc

pub returns-in_err-total : goal.returns-in_err-total
returns-in_err-total c =
    let a = c.args.a.now in
    let b = c.args.b.now in
    let p = err_from_is_err_and c.from_residual.result c.from_residual.ensures.1 in
    let why = same_err _ _ (rw c.in_err-total.ensures.ok_part at c.in_err-total.ensures.value) ∙ c.nowhere.ensures in
    rw (p.1, p.2)
    (refused-told _ c.args.out.now ∙ ap (λ (x : Refusal). answered (refused (refusal_meant x)) 0 c.args.out.now) why
    ∙ too_large a.bytes.now b.bytes.now c.args.out.now (summary_meant a.good.summary) (summary_meant b.good.summary)
    (beyond-most _ (sym c.in_err-total.ensures.ok_part ∙ c.join-sum.ensures)))

-- ---- B's header ends

pub slice_bounds-groups-count : goal.slice_bounds-groups-count
slice_bounds-groups-count c = let b = c.args.b.now in header-first b.bytes.now b.good b.is_good _ (c.record_end-header.ensures.0 ∙ zero-add _)

pub slice_bounds-groups-start : goal.slice_bounds-groups-start
slice_bounds-groups-start c = let b = c.args.b.now in header-first b.bytes.now b.good b.is_good _ (c.record_end-header.ensures.0 ∙ zero-add _)

pub slice_bounds-groups-end : goal.slice_bounds-groups-end
slice_bounds-groups-end c = let b = c.args.b.now in last-inside b.bytes.now b.good b.is_good

pub within-requires : goal.within-requires
within-requires c = let b = c.args.b.now in groups-within b.bytes.now b.good b.is_good _ (c.record_end-header.ensures.0 ∙ zero-add _)

-- ---- B's lines are tested

pub returns-then-not-within : goal.returns-then-not-within
returns-then-not-within c =
    let a = c.args.a.now in
    let b = c.args.b.now in
    let total = sym c.in_ok-total.ensures.ok_part ∙ c.join-sum.ensures in
    let tested =
    c.within.ensures ∙ same_lines b.bytes.now b.good b.is_good _ (c.record_end-header.ensures.0 ∙ zero-add _) a.good.limit
    ∙ ap (λ (l : ℕ). lines_within l (concat (concat (groups_in b.bytes.now)))) a.is_good.limit in
    refused-told c.into.result c.args.out.now ∙ ap (λ (r : Refused). answered (refused (refusal_meant r.refusal)) r.file c.args.out.now) c.into.ensures
    ∙ ap (λ (x : Refusal). answered (refused (refusal_meant x)) 0 c.args.out.now) c.nowhere-then-not-within.ensures
    ∙ too_wide a.bytes.now b.bytes.now c.args.out.now (summary_meant a.good.summary) (summary_meant b.good.summary) (within-most _ _ total)
    (sym tested ∙ c.if-not-within.true)

pub combine_fitting-requires : goal.combine_fitting-requires
combine_fitting-requires c =
    (c.record_end-header.ensures.0 ∙ zero-add _, within-is _ _ (sym c.in_ok-total.ensures.ok_part ∙ c.join-sum.ensures))

pub returns : goal.returns
returns c =
    let a = c.args.a.now in
    let b = c.args.b.now in
    let total = sym c.in_ok-total.ensures.ok_part ∙ c.join-sum.ensures in
    let tested =
    c.within.ensures ∙ same_lines b.bytes.now b.good b.is_good _ (c.record_end-header.ensures.0 ∙ zero-add _) a.good.limit
    ∙ ap (λ (l : ℕ). lines_within l (concat (concat (groups_in b.bytes.now)))) a.is_good.limit in
    c.combine_fitting.ensures
    ∙ to-fit a.bytes.now b.bytes.now c.args.out.now (summary_meant a.good.summary) (summary_meant b.good.summary) (within-most _ _ total)
    (sym tested ∙ c.if-not-within.false)
