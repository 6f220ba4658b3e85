-- So many parts are passed, and the ones ahead begin at `start`. Assumes nothing.
use Rattle.std.proofs.Common.{◌-◌, ◌≤◌, length}
use Rattle.rules.specs.Lines.{file_records}
use Rattle.rules.specs.Parts.{cut_at, part_in}
use Rattle.base_codes.specs.CodeMeaning.{code_meant}
use Rattle.part_groups.specs.PartsEnclosed.{Envelope}
use Rattle.part_groups.proofs.PartTurns.{Left}
use Rattle.part_groups.proofs.nth_part.Given as goal

abbrev pub invariant-loop : goal.invariant-loop
invariant-loop l =
    (l.start.0 ≤ length l.s)
    × ((e : Envelope (code_meant l.opening) (code_meant l.closing) (file_records l.s))
    → Left (code_meant l.opening) (code_meant l.closing) e.others l.s (part_in 0 (cut_at (code_meant l.opening) (code_meant l.closing) (file_records l.s)) l.n) l.start.0 (l.n - l.counter))
