-- The line of a call: its code, and its fields in the order of the record. Assumes nothing.
use Rattle.std.specs.Prelude.{ℕ, List}
use Rattle.rules.specs.Bytes.{Bytes}
use Rattle.rules.specs.Outcome.{Outcome}
use Rattle.rules.specs.Lines.{Code}
use Rattle.rules.specs.Grammar.{Kind}
use Rattle.write_line.specs.DraftMeaning.{Sofar, begun, added_all}
use Rattle.write_line.specs.DrawnLine.{Drawn, code_drawn, all_drawn}

-- a code with these kinds wanted, and fields with a comma after each but the last, which has this mark; stands for `kinds_after` and `body_of` of a line
-- that a slash ends (rules/specs/Writer.antt): joined by `slash-drafts` (write_commit/proofs/LinesCommitted.antt)
abbrev pub line_in : Code → List Kind → List Bytes → ℕ → Outcome Sofar
line_in c ks fs last = added_all fs last (begun c ks)

-- the same with all bytes of its space: joined by `line-said` (proofs/LinesSaid.antt)
abbrev pub line_drawn : Code → List Kind → List Bytes → ℕ → Drawn
line_drawn c ks fs last = all_drawn fs last (code_drawn c ks)
