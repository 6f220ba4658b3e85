-- `find_lines::block_ends`: the bytes so far are above a line feed, if the lowest is. Assumes nothing.
use Rattle.std.proofs.Common.{◌<◌}
use Rattle.find_lines.specs.LinesOfCode.{NoEnd}
use Rattle.find_lines.proofs.block_ends.Given as goal

abbrev pub invariant-loop-i : goal.invariant-loop-i
invariant-loop-i l = 10 < l.lowest → NoEnd l.s l.at l.i
