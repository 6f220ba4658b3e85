-- `find_lines::line_between`: so far no such line was met. Assumes nothing.
use Rattle.std.proofs.Common.{◌≡◌, ◌+◌, drop}
use Rattle.base_codes.specs.CodeMeaning.{bytes_meant}
use Rattle.find_lines.specs.LinesOfCode.{ahead_len}
use Rattle.find_lines.proofs.line_between.Given as goal

abbrev pub invariant-loop-i : goal.invariant-loop-i
invariant-loop-i l = l.fn.start.0 + ahead_len (bytes_meant l.x) (bytes_meant l.y) (drop l.fn.start.0 l.s) ≡ l.i + ahead_len (bytes_meant l.x) (bytes_meant l.y) (drop l.i l.s)
