-- The walk from here on gives what the whole walk gives: of a record at a line's start, and of a line at a field's.
use Rattle.std.proofs.Common.{◌≡◌, ◌-◌, ◌≤◌, length, drop}
use Rattle.std.proofs.Math.Seq.{slice}
use Rattle.rules.specs.Lines.{lines_of}
use Rattle.rules.specs.Cells.{cells_from}
use Rattle.read_wanted.specs.Wants.{wanted_of}
use Rattle.read_walk.specs.WalkKept.{point, walk_cells_k, walk_lines_k}
use Rattle.read_walk.proofs.WalkBounds.{Fits}
use Rattle.read_walk.proofs.walk_lines.Given as goal

abbrev pub invariant-loop-n : goal.invariant-loop-n
invariant-loop-n l =
    (l.a ≤ l.e)
    × (l.e ≤ length l.rec)
    × Fits (length l.rec) l.initial.kept.before.0 (point (wanted_of l.want) l.kept l.slash.0)
    × (walk_cells_k (point (wanted_of l.initial.want) l.initial.kept l.initial.slash.0) (cells_from l.initial.a (slice l.initial.a l.e l.rec))
    ≡ walk_cells_k (point (wanted_of l.want) l.kept l.slash.0) (cells_from l.a (slice l.a l.e l.rec)))

abbrev pub decreases-loop-n : goal.decreases-loop-n
decreases-loop-n l = l.e - l.a

abbrev pub invariant-loop-at : goal.invariant-loop-at
invariant-loop-at l =
    (l.at ≤ length l.rec)
    × Fits (length l.rec) l.initial.kept.before.0 (point (wanted_of l.want) l.kept l.slash.0)
    × (walk_lines_k 0 (point (wanted_of l.initial.want) l.initial.kept l.initial.slash.0) (lines_of l.rec) ≡ walk_lines_k l.at (point (wanted_of l.want) l.kept l.slash.0) (lines_of (drop l.at l.rec)))

abbrev pub decreases-loop-at : goal.decreases-loop-at
decreases-loop-at l = length l.rec - l.at
