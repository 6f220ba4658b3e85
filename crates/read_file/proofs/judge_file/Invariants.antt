-- The loop over records of `read_file::judge_file`: the verdict from the start is the verdict from here on. Assumes nothing.
use Rattle.std.proofs.Common.{◌≡◌, ◌+◌, ◌-◌, ◌≤◌, length}
use Rattle.rules.specs.Limits.{longest_file}
use Rattle.rules.specs.Verdict as verdict
use Rattle.read_file.specs.FileMeanings.{state_meant, Held}
use Rattle.read_file.proofs.FileRunLaws.{run_from, last_from}
use Rattle.read_file.proofs.judge_file.Given as goal

abbrev pub invariant-loop-next : goal.invariant-loop-next
invariant-loop-next l = record {
  within : l.at ≤ length l.file;
  held : Held l.st;
  room : l.st.file.records.0 + (length l.file - l.at) ≤ longest_file;
  runs : run_from 0 verdict.start l.file ≡ run_from l.at (state_meant l.st) l.file;
  place : last_from 0 0 l.file ≡ last_from l.last l.at l.file;
}

abbrev pub decreases-loop-next : goal.decreases-loop-next
decreases-loop-next l = length l.file - l.at
