-- The walk of rules' Records as what it yields: one field after the other, then the record's end or a refusal. Each definition stands for the one of
-- rules/specs/Records.antt that its name ends in, and `collected` of `trace_lines` for `walk_record`; joined by `collected-is` (proofs/TraceAgrees.antt). Assumes nothing.
use Rattle.std.specs.Prelude.{ℕ, ◌+◌, cond, List, [], ◌∷◌, eqb, length}
use Rattle.rules.specs.Bytes.{Bytes, trimmed}
use Rattle.rules.specs.Outcome.{Refusal, Outcome, refused, fine, ◌>>=◌}
use Rattle.rules.specs.Lines.{Line, size_of}
use Rattle.rules.specs.Cells.{Mark, at_comma, at_slash, at_line_end, Cell, mark_place, cells_of, leading_blanks}
use Rattle.rules.specs.Grammar.{Kind, Judged, bad, good, take_next, next_kind, is_text, may_lack}
use Rattle.rules.specs.Records.{Field}

-- a refusal; the record's end; or a field, and what comes after it
pub data Trace : Type 0 where
  stops : Refusal → Trace
  ends : Trace
  yields : Field → Trace → Trace

-- refused by this number at this place
abbrev pub stop_at : ℕ → ℕ → Trace
stop_at n p = stops (record { number = n; place = p })

-- a field with these bytes at place p, where these kinds are wanted
abbrev pub field_at : List Kind → ℕ → Bytes → Field
field_at ks p bs = record { kind = next_kind ks; place = p; bytes = bs }

-- a field that was judged so, before what the walk goes on with
unfoldable pub trace_after : Judged → Field → (List Kind → Trace) → Trace
trace_after (bad n) f go = stop_at n f.place
trace_after (good next) f go = yields f (go next)

-- the next field, with these bytes at place p
unfoldable pub trace_taken : List Kind → ℕ → Bytes → (List Kind → Trace) → Trace
trace_taken ks p bs go = trace_after (take_next ks bs) (field_at ks p bs) go

-- the same before a slash at q with these bytes after it: only blanks may follow
unfoldable pub trace_past_slash : Judged → Field → ℕ → Bytes → (List Kind → Trace) → Trace
trace_past_slash (bad n) f q after go = stop_at n f.place
trace_past_slash (good next) f q after go = cond (eqb (leading_blanks after) (length after)) (yields f (go next)) (stop_at 7 (q + 1 + leading_blanks after))

-- a cell that this mark ends; s: the place of the last slash that ended a line
unfoldable pub trace_taken_to : Mark → Cell → List Kind → ℕ → (List Kind → ℕ → Trace) → Trace
trace_taken_to at_line_end c ks s go = stop_at 7 (mark_place c)
trace_taken_to at_comma c ks s go = trace_taken ks c.place c.bytes (λ next. go next s)
trace_taken_to (at_slash after) c ks s go = trace_past_slash (take_next ks c.bytes) (field_at ks c.place c.bytes) (mark_place c) after (λ next. go next (mark_place c))

-- a line's cells, before what comes after the line
unfoldable pub trace_cells : List Kind → ℕ → List Cell → (List Kind → ℕ → Trace) → Trace
trace_cells ks s [] go = go ks s
trace_cells ks s (c ∷ cs) go =
    cond (is_text (next_kind ks)) (trace_taken ks c.place (trimmed c.rest) (λ next. go next s))
    (trace_taken_to c.mark c ks s (λ next q. trace_cells next q cs go))

-- last, what is missing
unfoldable pub trace_end : List Kind → ℕ → Trace
trace_end ks s = cond (may_lack ks) ends (stop_at 8 s)

-- a record's lines, the first of which starts at place p
unfoldable pub trace_lines : ℕ → List Kind → ℕ → List Line → Trace
trace_lines p ks s [] = trace_end ks s
trace_lines p ks s (l ∷ ls) = trace_cells ks s (cells_of p l) (λ next q. trace_lines (p + size_of l) next q ls)

-- all fields that are yielded, or the refusal
unfoldable pub collected : Trace → Outcome (List Field)
collected (stops why) = refused why
collected ends = fine []
collected (yields f t) = collected t >>= λ fs. fine (f ∷ fs)
