-- No byte before i stops the search.
use Rattle.std.proofs.Common.{◌≡◌, ◌+◌, ◌-◌, ◌≤◌, length, drop}
use Rattle.read_lines.specs.LineLengths.{run, stops_at}
use Rattle.read_lines.proofs.scan.end_by_bytes.Given as goal

abbrev pub invariant-loop-i : goal.invariant-loop-i
invariant-loop-i l =
    (l.i ≤ length l.s + (l.start.0 - length l.s)) × (l.start.0 + run (stops_at l.high) (drop l.start.0 l.s) ≡ l.i + run (stops_at l.high) (drop l.i l.s))
