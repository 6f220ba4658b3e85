-- The walk with what is kept in place of the list of fields: each definition stands for the one of rules/specs/Records.antt without the K, and `walk_from` for
-- `walk_record`; joined by `agrees` (proofs/WalkAgrees.antt), and by `joins` (proofs/WalkJoining.antt) to what the later checks need. Assumes nothing.
use Rattle.std.specs.Prelude.{ℕ, ◌+◌, cond, List, [], ◌∷◌, eqb, length}
use Rattle.rules.specs.Bytes.{Bytes, trimmed}
use Rattle.rules.specs.Outcome.{Outcome, refuse, fine, ◌>>=◌, check}
use Rattle.rules.specs.Lines.{Line, size_of, Record}
use Rattle.rules.specs.Cells.{Mark, at_comma, at_slash, at_line_end, Cell, mark_place, cells_of, leading_blanks}
use Rattle.rules.specs.Grammar.{Kind, Judged, bad, good, take_next, next_kind, is_text, may_lack}
use Rattle.read_wanted.specs.Wants.{purpose}
use Rattle.read_kept.specs.declared.Kept.{Kept}
use Rattle.read_kept.specs.KeepFields.{keep_read}

-- what is wanted next, what was kept, and the place of the last slash that ended a line
pub record WalkK : Type 0 where
  pub wanted : List Kind
  pub kept : Kept
  pub last_slash : ℕ

-- one of these three
abbrev pub point : List Kind → Kept → ℕ → WalkK
point ks k s = record { wanted = ks; kept = k; last_slash = s }

-- after a field at p that was judged so, with k kept of it
unfoldable pub walk_after_k : Judged → ℕ → Kept → WalkK → Outcome WalkK
walk_after_k (bad n) p k w = refuse n p
walk_after_k (good next) p k w = fine (point next k w.last_slash)

-- the next field, with these bytes at p
unfoldable pub taken_k : ℕ → Bytes → WalkK → Outcome WalkK
taken_k p bs w = walk_after_k (take_next w.wanted bs) p (keep_read (purpose (next_kind w.wanted)) w.kept p bs) w

-- after the slash at p
unfoldable pub past_slash_k : ℕ → Bytes → WalkK → Outcome WalkK
past_slash_k p after w =
    check (eqb (leading_blanks after) (length after)) 7 (p + 1 + leading_blanks after) >>= λ _. fine (point w.wanted w.kept p)

-- a field that this mark ends
unfoldable pub taken_to_k : Mark → Cell → WalkK → Outcome WalkK
taken_to_k at_line_end c w = refuse 7 (mark_place c)
taken_to_k at_comma c w = taken_k c.place c.bytes w
taken_to_k (at_slash after) c w = taken_k c.place c.bytes w >>= λ next. past_slash_k (mark_place c) after next

-- a line's cells
unfoldable pub walk_cells_k : WalkK → List Cell → Outcome WalkK
walk_cells_k w [] = fine w
walk_cells_k w (c ∷ cs) =
    cond (is_text (next_kind w.wanted)) (taken_k c.place (trimmed c.rest) w) (taken_to_k c.mark c w >>= λ next. walk_cells_k next cs)

-- a record's lines
unfoldable pub walk_lines_k : ℕ → WalkK → List Line → Outcome WalkK
walk_lines_k p w [] = fine w
walk_lines_k p w (l ∷ ls) = walk_cells_k w (cells_of p l) >>= λ next. walk_lines_k (p + size_of l) next ls

-- last, what is missing
unfoldable pub end_k : WalkK → Outcome Kept
end_k w = check (may_lack w.wanted) 8 w.last_slash >>= λ _. fine w.kept

-- a record, from these wanted kinds on, with k kept before
unfoldable pub walk_from : List Kind → Kept → Record → Outcome Kept
walk_from ks k r = walk_lines_k 0 (point ks k 0) r >>= λ w. end_k w
