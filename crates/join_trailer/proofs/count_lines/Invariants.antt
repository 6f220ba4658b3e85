-- Where `join_trailer::count_lines` stands in its loop: so many lines are passed, and the others are left. Assumes nothing.
use Prim.Native.Nat.{◌+◌, ◌-◌, ◌≤◌}
use mathlib.Core.Path.{◌≡◌}
use lib.ListN.{length, drop}
use Rattle.rules.specs.Lines.{lines_of}
use Rattle.join_trailer.proofs.count_lines.Given as goal

abbrev pub invariant-loop-at : goal.invariant-loop-at
invariant-loop-at l = (l.n ≤ l.at) × (l.at ≤ length l.s) × (l.n + length (lines_of (drop l.at l.s)) ≡ length (lines_of l.s))

abbrev pub decreases-loop-at : goal.decreases-loop-at
decreases-loop-at l = length l.s - l.at
