-- The lines from `start` on are as good as all.
use Rattle.std.proofs.Common.{◌≡◌, ◌-◌, ◌≤◌, length, drop}
use Rattle.rules.specs.Lines.{lines_of}
use Rattle.rules.specs.Verdict.{none_longer}
use Rattle.read_line_checks.proofs.none_longer.Given as goal

abbrev pub invariant-loop-start : goal.invariant-loop-start
invariant-loop-start l =
    (l.start ≤ length l.s) × (none_longer 0 l.limit (lines_of l.s) ≡ none_longer l.start l.limit (lines_of (drop l.start l.s)))

abbrev pub decreases-loop-start : goal.decreases-loop-start
decreases-loop-start l = length l.s - l.start
