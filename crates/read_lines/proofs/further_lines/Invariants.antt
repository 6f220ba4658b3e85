-- n 88 lines stand before `end`.
use Rattle.std.proofs.Common.{◌≡◌, ◌+◌, ◌-◌, ◌≤◌, length, drop}
use Rattle.rules.specs.Lines.{lines_of, record_size}
use Rattle.read_lines.specs.LineLengths.{further}
use Rattle.read_lines.proofs.further_lines.Given as goal

abbrev pub invariant-loop-end : goal.invariant-loop-end
invariant-loop-end l =
    (l.end.0 ≤ length l.s + (l.fn.start.0 - length l.s))
    × (l.fn.start.0 + record_size (further (lines_of (drop l.fn.start.0 l.s))) ≡ l.end.0 + record_size (further (lines_of (drop l.end.0 l.s))))
    × (length (further (lines_of (drop l.fn.start.0 l.s))) ≡ l.n + length (further (lines_of (drop l.end.0 l.s))))
    × (l.fn.start.0 + l.n ≤ l.end.0)

abbrev pub decreases-loop-end : goal.decreases-loop-end
decreases-loop-end l = length l.s - l.end.0
