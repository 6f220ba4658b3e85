-- Document 01, "fields left to right, where the walk stops at the first fault found": 7, 8 and 9. Places are counted from the record's start,
-- so that a record means the same wherever it stands. Assumes nothing.
use Rattle.std.specs.Prelude.{ℕ, ◌+◌, cond, List, [], ◌∷◌, ◌++◌, eqb, length}
use Rattle.rules.specs.Bytes.{Bytes, trimmed}
use Rattle.rules.specs.Outcome.{Outcome, refuse, fine, ◌>>=◌, ◌>>◌, check}
use Rattle.rules.specs.Lines.{Line, size_of, Code, Record}
use Rattle.rules.specs.Cells.{Mark, at_comma, at_slash, at_line_end, Cell, mark_place, cells_of, leading_blanks}
use Rattle.rules.specs.Grammar.{Kind, Judged, bad, good, take_next, next_kind, is_text, same_kind, may_lack, fields_of}

-- a field that was read; place: of its first byte
pub record Field : Type 0 where
  pub kind : Kind
  pub place : ℕ
  pub bytes : Bytes

-- what is wanted next, the fields read, and the place of the last slash that ended a line
pub record Walk : Type 0 where
  pub wanted : List Kind
  pub fields : List Field
  pub last_slash : ℕ

-- the walk after a field that was judged so
unfoldable pub walk_after : Judged → Field → Walk → Outcome Walk
walk_after (bad n) f w = refuse n f.place
walk_after (good next) f w = fine (record { wanted = next; fields = w.fields ++ (f ∷ []); last_slash = w.last_slash })

-- the next field, with these bytes at place p
unfoldable pub taken : ℕ → Bytes → Walk → Outcome Walk
taken p bs w = walk_after (take_next w.wanted bs) (record { kind = next_kind w.wanted; place = p; bytes = bs }) w

-- only blanks may follow a slash: the walk after the slash at place p, with these bytes after it
unfoldable pub past_slash : ℕ → Bytes → Walk → Outcome Walk
past_slash p after w = do
  check (eqb (leading_blanks after) (length after)) 7 (p + 1 + leading_blanks after)
  fine (record { wanted = w.wanted; fields = w.fields; last_slash = p })

-- a field is judged once its comma or slash is found, then a byte after its slash
unfoldable pub taken_to : Mark → Cell → Walk → Outcome Walk
taken_to at_line_end c w = refuse 7 (mark_place c)
taken_to at_comma c w = taken c.place c.bytes w
taken_to (at_slash after) c w = taken c.place c.bytes w >>= λ next. past_slash (mark_place c) after next

-- a line's cells, from left to right; a text takes the line from its place on, less trailing blanks
unfoldable pub walk_cells : Walk → List Cell → Outcome Walk
walk_cells w [] = fine w
walk_cells w (c ∷ cs) =
    cond (is_text (next_kind w.wanted)) (taken c.place (trimmed c.rest) w)
    (taken_to c.mark c w >>= λ next. walk_cells next cs)

-- the fields of an 88 carry on after the last field of the line before; the first of these lines starts at place p
unfoldable pub walk_lines : ℕ → Walk → List Line → Outcome Walk
walk_lines p w [] = fine w
walk_lines p w (l ∷ ls) = walk_cells w (cells_of p l) >>= λ next. walk_lines (p + size_of l) next ls

-- a record's fields; last, what is missing: 8, at the record's last slash
unfoldable pub walk_record : Code → Record → Outcome (List Field)
walk_record c r = do
  w ← walk_lines 0 (record { wanted = fields_of c; fields = []; last_slash = 0 }) r
  check (may_lack w.wanted) 8 w.last_slash
  fine w.fields

-- the first field of a kind; an empty one where there is none
unfoldable pub the : Kind → List Field → Field
the k [] = record { kind = k; place = 0; bytes = [] }
the k (f ∷ fs) = cond (same_kind k f.kind) f (the k fs)
