-- The summaries of the code as those of the rules. Assumes nothing.
use Rattle.std.specs.Prelude.{◌≤◌}
use Rattle.rules.specs.Limits.{most}
use Rattle.rules.specs.Totals as totals
use Rattle.base_quantities.specs.QuantityMeanings.{sum_meant, wrapped, wrapped_sum}
use Rattle.base_totals.specs.declared.Summary.{Summary}

-- the summary of no records
abbrev pub nothing_yet : Summary
nothing_yet = record { total = record { 0 = 0; 1 = 0 }; groups = record { 0 = 0 }; accounts = record { 0 = 0 }; details = record { 0 = 0 }; records = record { 0 = 0 } }

abbrev pub summary_meant : Summary → totals.Summary
summary_meant s =
    record { sum = sum_meant s.total; groups = s.groups.0; accounts = s.accounts.0; details = s.details.0; records = s.records.0 }

-- its numbers as those of 64 bits; of small summaries they are the numbers themselves: `small-sum` (proofs/SummaryLaws.antt)
abbrev pub wrapped_summary : totals.Summary → totals.Summary
wrapped_summary s =
    record {
      sum = wrapped_sum s.sum;
      groups = wrapped s.groups;
      accounts = wrapped s.accounts;
      details = wrapped s.details;
      records = wrapped s.records;
    }

-- no number is beyond the largest sum; so two such summaries in one wrap nowhere
pub record Small (s : Summary) : Type 0 where
  pub pluses : s.total.0 ≤ most
  pub minuses : s.total.1 ≤ most
  pub groups : s.groups.0 ≤ most
  pub accounts : s.accounts.0 ≤ most
  pub details : s.details.0 ≤ most
  pub records : s.records.0 ≤ most
