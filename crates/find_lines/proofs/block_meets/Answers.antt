-- `find_lines::block_meets`: one byte more, and the whole block. Assumes nothing.
use Prim.Native.Nat.{◌+◌}
use native.Mathlib.Omega.{arith}
use borrow.Author.Count.{below_more}
use Rattle.find_lines.proofs.LineSearch.{quiet-byte}
use Rattle.find_lines.proofs.block_meets.Goals as goal

pub loop-i-preserved : goal.loop-i-preserved
loop-i-preserved c =
    let a = c.args in
    let l = c.loop-i in
    let k = a.start.0 + l.i in
    λ e. below_more _ _ (l.invariant (c.meets-found.ensures e).0) (quiet-byte a.x a.y a.s.now k (omega arith) (c.meets-found.ensures e).1)
