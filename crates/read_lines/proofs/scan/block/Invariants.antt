-- `first` is the first of i bytes that is outside.
use Rattle.read_lines.proofs.Blocks.{Nearest}
use Rattle.read_lines.proofs.scan.block.Given as goal

abbrev pub invariant-loop-i : goal.invariant-loop-i
invariant-loop-i l = Nearest l.s l.at l.high l.i l.first
