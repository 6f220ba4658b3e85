-- `find_lines::block_meets`: after the bytes so far no such line begins, if nothing was found. Assumes nothing.
use Rattle.std.proofs.Common.{◌≡◌}
use Rattle.base_codes.specs.CodeMeaning.{bytes_meant}
use Rattle.find_lines.specs.LinesOfCode.{Quiet}
use Rattle.find_lines.proofs.block_meets.Given as goal

abbrev pub invariant-loop-i : goal.invariant-loop-i
invariant-loop-i l = l.found ≡ 0 → Quiet (bytes_meant l.x) (bytes_meant l.y) l.s l.at l.i
