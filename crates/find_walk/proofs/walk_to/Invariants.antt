-- `find_walk::walk_to`: before each field, what is left of the walk and of the numbers. Assumes nothing.
use Rattle.find_next.specs.CursorMeaning.{trace_of, left_of}
use Rattle.find_walk.proofs.WalkLaws.{Going}
use Rattle.find_walk.proofs.walk_to.Given as goal

abbrev pub invariant-loop-why : goal.invariant-loop-why
invariant-loop-why l = Going l.rec l.start.0 l.least l.sought (trace_of l.rec l.least l.initial.walk) l.initial.out l.walk l.n l.at l.out

abbrev pub decreases-loop-why : goal.decreases-loop-why
decreases-loop-why l = left_of l.rec l.walk
