-- The line has no end before i.
use Rattle.std.proofs.Common.{◌≡◌, ◌+◌, ◌-◌, ◌≤◌, length, drop}
use Rattle.read_lines.specs.LineLengths.{body_len}
use Rattle.read_lines.proofs.body_end.Given as goal

abbrev pub invariant-loop-i : goal.invariant-loop-i
invariant-loop-i l = (l.i ≤ length l.s + (l.fn.start.0 - length l.s)) × (l.fn.start.0 + body_len (drop l.fn.start.0 l.s) ≡ l.i + body_len (drop l.i l.s))

abbrev pub decreases-loop-i : goal.decreases-loop-i
decreases-loop-i l = length l.s - l.i
