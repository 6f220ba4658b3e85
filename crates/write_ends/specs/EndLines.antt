-- The line that ends a group or the file, committed. Assumes nothing.
use Rattle.std.specs.Prelude.{ℕ, ◌+◌, min, false, [], ◌∷◌, length}
use Rattle.rules.specs.Bytes.{Bytes, slash}
use Rattle.rules.specs.Numbers.{zero_sum, decimal, total_bytes}
use Rattle.rules.specs.Outcome.{Outcome}
use Rattle.rules.specs.Lines.{Code}
use Rattle.rules.specs.Grammar.{fields_of}
use Rattle.rules.specs.Totals.{Summary}
use Rattle.rules.specs.Writer.{Writer, Written, written_by}
use Rattle.base_quantities.specs.QuantityMeanings.{most_records}
use Rattle.write_line.specs.DraftMeaning.{Sofar}
use Rattle.write_records.specs.RecordLines.{line_in}
use Rattle.write_commit.specs.Commit.{committed}

-- the drafted line: the total, this count, and the records with itself
abbrev pub end_line : Code → Summary → ℕ → Outcome Sofar
end_line c s n = line_in c (fields_of c) (total_bytes s.sum ∷ decimal n ∷ decimal (min (s.records + 1) most_records) ∷ []) slash

-- what the commit of that line answers; stands for `write` of `end_group` and `end_file` (rules/specs/Writer.antt): joined by `group-end-written` and
-- `file-end-written` (proofs/EndLaws.antt)
unfoldable pub ended : Writer → Code → Summary → ℕ → Bytes → Written
ended w c s n out = written_by w (committed w c (end_line c s n) zero_sum false (length out)) out
