-- `run_report::put_counts` meets its contract. Assumes nothing.
use Rattle.std.proofs.Common.{◌++◌}
use Rattle.base_totals.specs.SummaryMeaning.{summary_meant}
use Rattle.base_slices.proofs.WroteLaws.{wrote-first, wrote-part, wrote-last}
use Rattle.run_report.specs.PutLines.{figure, counts}
use Rattle.run_report.proofs.put_counts.Goals as goal

pub returns : goal.returns
unfolding counts
returns c =
    let s = summary_meant c.args.summary in
    let w₁ =
    wrote-first (figure s.groups) (figure s.accounts ++ (figure s.details ++ figure s.records)) c.args.out.now
    c.put_digits_after-o.result c.put_digits_after-o.new.out c.requires c.put_digits_after-o.ensures in
    let w₂ = wrote-part _ _ _ (figure s.accounts) (figure s.details ++ figure s.records) _ _ _ w₁ c.put_digits_after-o-2.ensures in
    let w₃ = wrote-part _ _ _ (figure s.details) (figure s.records) _ _ _ w₂ c.put_digits_after-o-3.ensures in
    wrote-last _ _ _ (figure s.records) _ _ _ w₃ c.put_digits_after-o-4.ensures
