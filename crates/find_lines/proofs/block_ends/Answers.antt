-- `find_lines::block_ends`: one byte more. Assumes nothing.
use native.Mathlib.Omega.{arith}
use borrow.Author.Count.{below_more}
use Rattle.find_lines.proofs.block_ends.Goals as goal

pub loop-i-preserved : goal.loop-i-preserved
loop-i-preserved c = λ e. below_more _ _ (c.loop-i.invariant (omega (arith, c.smaller-lowest.ensures))) (omega (arith, c.smaller-lowest.ensures))
