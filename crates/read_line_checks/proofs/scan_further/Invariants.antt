-- The record's lines before `at` are good, n of them.
use Rattle.std.proofs.Common.{◌-◌, ◌<◌, ◌≤◌, length, drop}
use Rattle.rules.specs.Lines.{lines_of}
use Rattle.read_lines.specs.LineLengths.{further, first_record}
use Rattle.read_line_checks.proofs.LineCheckLaws.{Same}
use Rattle.read_line_checks.proofs.scan_further.Given as goal

abbrev pub invariant-loop-at : goal.invariant-loop-at
invariant-loop-at l =
    (0 < l.at) × (l.at ≤ length l.s) × (l.n ≤ l.at) × (0 < l.n) × Same l.limit (first_record (lines_of l.s)) l.at l.n (further (lines_of (drop l.at l.s)))

abbrev pub decreases-loop-at : goal.decreases-loop-at
decreases-loop-at l = length l.s - l.at
