-- The states and answers of the code as those of the rules. Assumes nothing.
use Rattle.std.specs.Prelude.{Result, Ok, Err}
use Rattle.rules.specs.Bytes.{Bytes}
use Rattle.rules.specs.Outcome.{not_refused}
use Rattle.rules.specs.Writer as rules
use Rattle.base_refusals.specs.RefusalMeaning.{refusal_meant}
use Rattle.base_refusals.specs.declared.Refusal.{Refusal}
use Rattle.base_totals.specs.SummaryMeaning.{summary_meant}
use Rattle.write_state.specs.declared.Phase.{Phase}
use Rattle.write_state.specs.declared.Phase.TheVariants as phases
use Rattle.write_state.specs.declared.Writer.{Writer}
use Rattle.write_state.specs.declared.Written.{Written}

abbrev pub phase_meant : Phase → rules.Phase
phase_meant phases.Fresh = rules.fresh
phase_meant phases.BetweenGroups = rules.between_groups
phase_meant phases.InGroup = rules.in_group
phase_meant phases.InAccount = rules.in_account
phase_meant phases.BetweenAccounts = rules.between_accounts
phase_meant phases.Finished = rules.finished

abbrev pub writer_meant : Writer → rules.Writer
writer_meant w =
    record {
      phase = phase_meant w.phase;
      items = w.items;
      size = w.size.0;
      file = summary_meant w.file;
      group = summary_meant w.group;
      account = summary_meant w.account;
    }

-- an answer to a call on this state, with the output slice as it is then: where it is refused, the state stays, and there is no length
abbrev pub written_meant : Writer → Result Written Refusal → Bytes → rules.Written
written_meant w (Ok r) out = record { refusal = not_refused; len = r.length; writer = writer_meant r.writer; output = out }
written_meant w (Err why) out = record { refusal = refusal_meant why; len = 0; writer = writer_meant w; output = out }
