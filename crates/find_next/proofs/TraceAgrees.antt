-- What the walk yields, collected, is what the rules' walk gives. Assumes nothing.
use Prim.Native.Nat.{ℕ, ◌+◌}
use mathlib.Core.Path.{◌≡◌, refl, sym, ap, ◌∙◌}
use mathlib.Core.Bool.{Bool, true, false, cond}
use mathlib.Core.List.{List, [], ◌∷◌, ◌++◌, append_assoc, append-nil}
use lib.Dec.{eqb}
use lib.ListN.{length}
use Rattle.rules.specs.Bytes.{Bytes, trimmed}
use Rattle.rules.specs.Outcome.{Outcome, refused, fine, ◌>>=◌, ◌>>◌, check}
use Rattle.rules.specs.Lines.{Line, size_of, Code, Record}
use Rattle.rules.specs.Cells.{Mark, at_comma, at_slash, at_line_end, Cell, mark_place, cells_of, leading_blanks}
use Rattle.rules.specs.Grammar.{Kind, Judged, bad, good, take_next, next_kind, is_text, may_lack, fields_of}
use Rattle.rules.specs.Records.{Field, Walk, walk_after, taken, past_slash, taken_to, walk_cells, walk_lines, walk_record}
use Rattle.find_next.specs.FieldTrace.{Trace, ends, yields, stop_at, field_at, trace_after, trace_taken, trace_past_slash, trace_taken_to, trace_cells, trace_end, trace_lines, collected}

-- fields before those that are collected
abbrev before : List Field → Outcome (List Field) → Outcome (List Field)
before fs o = o >>= λ gs. fine (fs ++ gs)

before-one : (fs : List Field) (f : Field) (o : Outcome (List Field)) → before (fs ++ (f ∷ [])) o ≡ before fs (o >>= λ gs. fine (f ∷ gs))
before-one fs f (refused why) = refl
before-one fs f (fine gs) = ap fine (append_assoc fs (f ∷ []) gs)

before-none : (o : Outcome (List Field)) → before [] o ≡ o
before-none (refused why) = refl
before-none (fine gs) = refl

-- what the walk gives after some point, and what is yielded there
abbrev Agrees : (Walk → Outcome (List Field)) → (List Kind → ℕ → Trace) → Type 0
Agrees rest go = (v : Walk) → rest v ≡ before v.fields (collected (go v.wanted v.last_slash))

module _ (rest : Walk → Outcome (List Field)) (go : List Kind → ℕ → Trace) (agree : Agrees rest go) where
  -- a field that was judged so
  after-agrees : (j : Judged) (f : Field) (w : Walk) → (walk_after j f w >>= rest) ≡ before w.fields (collected (trace_after j f (λ next. go next w.last_slash)))
  unfolding walk_after trace_after collected
  after-agrees (bad n) f w = refl
  after-agrees (good next) f w =
      agree (record { wanted = next; fields = w.fields ++ (f ∷ []); last_slash = w.last_slash }) ∙ before-one w.fields f (collected (go next w.last_slash))

  taken-agrees : (p : ℕ) (bs : Bytes) (w : Walk) → (taken p bs w >>= rest) ≡ before w.fields (collected (trace_taken w.wanted p bs (λ next. go next w.last_slash)))
  unfolding taken trace_taken
  taken-agrees p bs w = after-agrees (take_next w.wanted bs) (field_at w.wanted p bs) w

  -- a field before a slash
  past-agrees : (j : Judged) (f : Field) (w : Walk) (q : ℕ) (after : Bytes)
      → ((walk_after j f w >>= λ v. past_slash q after v) >>= rest) ≡ before w.fields (collected (trace_past_slash j f q after (λ next. go next q)))
  unfolding walk_after trace_past_slash collected past_slash
  past-agrees (bad n) f w q after = refl
  past-agrees (good next) f w q after = by-blanks (eqb (leading_blanks after) (length after))
    where
      by-blanks : (t : Bool)
          → ((check t 7 (q + 1 + leading_blanks after) >> fine (record { wanted = next; fields = w.fields ++ (f ∷ []); last_slash = q })) >>= rest)
          ≡ before w.fields (collected (cond t (yields f (go next q)) (stop_at 7 (q + 1 + leading_blanks after))))
      by-blanks true = agree (record { wanted = next; fields = w.fields ++ (f ∷ []); last_slash = q }) ∙ before-one w.fields f (collected (go next q))
      by-blanks false = refl

  to-agrees : (m : Mark) (c : Cell) (w : Walk) → (taken_to m c w >>= rest) ≡ before w.fields (collected (trace_taken_to m c w.wanted w.last_slash go))
  unfolding taken_to trace_taken_to collected taken
  to-agrees at_line_end c w = refl
  to-agrees at_comma c w = taken-agrees c.place c.bytes w
  to-agrees (at_slash after) c w = past-agrees (take_next w.wanted c.bytes) (field_at w.wanted c.place c.bytes) w (mark_place c) after

-- ---- a line's cells

bind-bind : (o : Outcome Walk) (f : Walk → Outcome Walk) (g : Walk → Outcome (List Field)) → ((o >>= f) >>= g) ≡ (o >>= λ w. f w >>= g)
bind-bind (refused why) f g = refl
bind-bind (fine w) f g = refl

cells_agree : (cs : List Cell) (w : Walk) (rest : Walk → Outcome (List Field)) (go : List Kind → ℕ → Trace) → Agrees rest go
    → (walk_cells w cs >>= rest) ≡ before w.fields (collected (trace_cells w.wanted w.last_slash cs go))
unfolding walk_cells trace_cells
cells_agree [] w rest go agree = agree w
cells_agree (c ∷ cs) w rest go agree = by-text (is_text (next_kind w.wanted)) (λ v. cells_agree cs v rest go agree)
  where
    by-text : (t : Bool) → Agrees (λ v. walk_cells v cs >>= rest) (λ next q. trace_cells next q cs go)
        → (cond t (taken c.place (trimmed c.rest) w) (taken_to c.mark c w >>= λ next. walk_cells next cs) >>= rest)
        ≡ before w.fields (collected (cond t (trace_taken w.wanted c.place (trimmed c.rest) (λ next. go next w.last_slash))
        (trace_taken_to c.mark c w.wanted w.last_slash (λ next q. trace_cells next q cs go))))
    by-text true ih = taken-agrees rest go agree c.place (trimmed c.rest) w
    by-text false ih =
        bind-bind (taken_to c.mark c w) (λ next. walk_cells next cs) rest
        ∙ to-agrees (λ v. walk_cells v cs >>= rest) (λ next q. trace_cells next q cs go) ih c.mark c w

-- ---- a record's lines

abbrev ending : Walk → Outcome (List Field)
ending w = check (may_lack w.wanted) 8 w.last_slash >> fine w.fields

end-agrees : Agrees ending (λ ks s. trace_end ks s)
unfolding trace_end collected
end-agrees w = by_end (may_lack w.wanted)
  where
    by_end : (t : Bool)
        → (check t 8 w.last_slash >> fine w.fields) ≡ before w.fields (collected (cond t ends (stop_at 8 w.last_slash)))
    by_end true = ap fine (sym (append-nil w.fields))
    by_end false = refl

lines-agree : (ls : List Line) (p : ℕ) (w : Walk) → (walk_lines p w ls >>= ending) ≡ before w.fields (collected (trace_lines p w.wanted w.last_slash ls))
unfolding walk_lines trace_lines
lines-agree [] p w = end-agrees w
lines-agree (l ∷ ls) p w =
    bind-bind (walk_cells w (cells_of p l)) (λ next. walk_lines (p + size_of l) next ls) ending
    ∙ cells_agree (cells_of p l) w (λ v. walk_lines (p + size_of l) v ls >>= ending) (λ next q. trace_lines (p + size_of l) next q ls) (λ v. lines-agree ls (p + size_of l) v)

-- THE WALK over a record of code c
pub collected-is : (c : Code) (r : Record) → walk_record c r ≡ collected (trace_lines 0 (fields_of c) 0 r)
unfolding walk_record
collected-is c r =
    lines-agree r 0 (record { wanted = fields_of c; fields = []; last_slash = 0 }) ∙ before-none (collected (trace_lines 0 (fields_of c) 0 r))
