-- What the reader's states and verdicts say in document 01's terms. Assumes nothing.
use Rattle.std.specs.Prelude.{◌+◌, ◌≤◌, Result, Ok, Err}
use Rattle.rules.specs.Outcome.{Outcome, refused, fine}
use Rattle.rules.specs.Limits.{most}
use Rattle.rules.specs.Totals as totals
use Rattle.rules.specs.Verdict as verdict
use Rattle.base_refusals.specs.declared.Refusal.{Refusal}
use Rattle.base_refusals.specs.RefusalMeaning.{refusal_meant}
use Rattle.read_order.specs.ExpectedCodes.{expected_meant}
use Rattle.base_totals.specs.declared.Summary.{Summary}
use Rattle.base_totals.specs.SummaryMeaning.{summary_meant}
use Rattle.read_file.specs.declared.state.State.{State}

-- ---- meanings

abbrev pub state_meant : State → verdict.State
state_meant s =
    record {
      expected = expected_meant s.expected;
      limit = s.limit;
      file = summary_meant s.file;
      group = summary_meant s.group;
      account = summary_meant s.account;
    }

abbrev pub verdict_meant : Result Summary Refusal → Outcome totals.Summary
verdict_meant (Ok s) = fine (summary_meant s)
verdict_meant (Err why) = refused (refusal_meant why)

-- ---- what keeps sums and counts in range

-- no number of the one is beyond the other's
pub record Below (a b : Summary) : Type 0 where
  pub pluses : a.total.0 ≤ b.total.0
  pub minuses : a.total.1 ≤ b.total.1
  pub groups : a.groups.0 ≤ b.groups.0
  pub accounts : a.accounts.0 ≤ b.accounts.0
  pub details : a.details.0 ≤ b.details.0
  pub records : a.records.0 ≤ b.records.0

-- no more groups, accounts and details than lines
pub record Counted (s : Summary) : Type 0 where
  pub groups : s.groups.0 ≤ s.records.0
  pub accounts : s.accounts.0 ≤ s.records.0
  pub details : s.details.0 ≤ s.records.0

-- between two records: the magnitudes are within the bound, and the open group and account are parts of the file
pub record Held (s : State) : Type 0 where
  pub bound : s.file.total.0 + s.file.total.1 ≤ most
  pub counted : Counted s.file
  pub group : Below s.group s.file
  pub account : Below s.account s.file
