-- The line's code is among those not tried yet.
use Rattle.std.proofs.Common.{◌≡◌, drop, map}
use Rattle.rules.specs.Lines.{code_in, code_of}
use Rattle.base_codes.specs.CodeMeaning.{code_meant}
use Rattle.read_lines.specs.LineLengths.{first_line}
use Rattle.read_lines.proofs.code_at.Given as goal

abbrev pub invariant-loop-code : goal.invariant-loop-code
invariant-loop-code l = code_of (first_line (drop l.start.0 l.s)) ≡ code_in (map code_meant (drop l.code-index l.code-items)) (first_line (drop l.start.0 l.s))
