-- Summaries are the same where their numbers are; and two small ones in one wrap nowhere. Assumes nothing.
use Rattle.std.proofs.Common.{◌≡◌, ◌+◌, arith}
use Rattle.rules.specs.Totals.{Summary, ◌⊞◌}
use Rattle.base_quantities.proofs.UnitsLaws.{not-wrapped}
use Rattle.base_totals.specs.declared.Summary as code
use Rattle.base_totals.specs.SummaryMeaning.{summary_meant, wrapped_summary, Small}

pub same_numbers : (a b : Summary) → a.sum ≡ b.sum → a.groups ≡ b.groups → a.accounts ≡ b.accounts → a.details ≡ b.details
    → a.records ≡ b.records → a ≡ b
same_numbers a b s g c d n = λ i. record { sum = s i; groups = g i; accounts = c i; details = d i; records = n i }

pub small-sum : (a b : code.Summary) → Small a → Small b → wrapped_summary (summary_meant a ⊞ summary_meant b) ≡ summary_meant a ⊞ summary_meant b
unfolding ◌⊞◌
small-sum a b x y =
    rw (
      not-wrapped (a.total.0 + b.total.0) (omega (arith, x.pluses, y.pluses)),
      not-wrapped (a.total.1 + b.total.1) (omega (arith, x.minuses, y.minuses)),
      not-wrapped (a.groups.0 + b.groups.0) (omega (arith, x.groups, y.groups)),
      not-wrapped (a.accounts.0 + b.accounts.0) (omega (arith, x.accounts, y.accounts)),
      not-wrapped (a.details.0 + b.details.0) (omega (arith, x.details, y.details)),
      not-wrapped (a.records.0 + b.records.0) (omega (arith, x.records, y.records)),
    )
