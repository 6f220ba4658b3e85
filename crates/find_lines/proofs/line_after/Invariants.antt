-- `find_lines::line_after`: no such line begins after a byte of the blocks passed. Assumes nothing.
use Rattle.std.proofs.Common.{◌≡◌, ◌+◌, ◌-◌, ◌≤◌, length, drop}
use Rattle.base_codes.specs.CodeMeaning.{bytes_meant}
use Rattle.find_lines.specs.LinesOfCode.{ahead_len}
use Rattle.find_lines.proofs.line_after.Given as goal

abbrev pub invariant-loop-i : goal.invariant-loop-i
invariant-loop-i l =
    (l.i ≤ length l.s) × (l.fn.start.0 + ahead_len (bytes_meant l.x) (bytes_meant l.y) (drop l.fn.start.0 l.s) ≡ l.i + ahead_len (bytes_meant l.x) (bytes_meant l.y) (drop l.i l.s))

abbrev pub decreases-loop-i : goal.decreases-loop-i
decreases-loop-i l = length l.s - l.i
