-- The walk that keeps is the rules' walk with its fields kept. Assumes nothing.
use Prim.Native.Nat.{ℕ, ◌+◌}
use mathlib.Core.Path.{◌≡◌, refl, ap, sym, ◌∙◌}
use mathlib.Core.Bool.{Bool, true, false, cond}
use mathlib.Core.List.{List, [], ◌∷◌, ◌++◌}
use lib.Dec.{eqb}
use lib.ListN.{length}
use Rattle.rules.specs.Bytes.{Bytes, trimmed}
use Rattle.rules.specs.Outcome.{Outcome, refused, fine, ◌>>=◌, ◌>>◌, check}
use Rattle.rules.specs.Lines.{Line, size_of, Code, Record}
use Rattle.rules.specs.Cells.{Mark, at_comma, at_slash, at_line_end, Cell, mark_place, cells_of, leading_blanks}
use Rattle.rules.specs.Grammar.{Kind, Judged, bad, good, judged, and_then, take_next, next_kind, is_text, fields_of, may_lack}
use Rattle.rules.specs.Records.{Field, Walk, walk_after, taken, past_slash, taken_to, walk_cells, walk_lines, walk_record}
use Rattle.read_wanted.specs.Wants.{purpose}
use Rattle.read_kept.specs.declared.Kept.{Kept}
use Rattle.read_kept.specs.KeepFields.{keep_read, keep_field, keep_all}
use Rattle.read_kept.proofs.EachKind.{good-read}
use Rattle.read_walk.specs.WalkKept.{WalkK, point, walk_after_k, taken_k, past_slash_k, taken_to_k, walk_cells_k, walk_lines_k, end_k, walk_from}

keep-last : (k : Kept) (fs : List Field) (f : Field) → keep_all k (fs ++ (f ∷ [])) ≡ keep_field (keep_all k fs) f
unfolding keep_all
keep-last k [] f = refl
keep-last k (g ∷ fs) f = keep-last (keep_field k g) fs f

-- with the fields kept after k
abbrev kept_in : Kept → Walk → WalkK
kept_in k w = point w.wanted (keep_all k w.fields) w.last_slash

abbrev onto : Kept → Outcome Walk → Outcome WalkK
onto k (refused why) = refused why
onto k (fine w) = fine (kept_in k w)

module _ (k : Kept) where
  then_agrees : (o : Outcome Walk) (f : WalkK → Outcome WalkK) (g : Walk → Outcome Walk) → ((w : Walk) → f (kept_in k w) ≡ onto k (g w)) → (onto k o >>= f) ≡ onto k (o >>= g)
  then_agrees (refused why) f g h = refl
  then_agrees (fine w) f g h = h w

  -- ---- a field

  after-agrees : (j : Judged) (kd : Kind) (ks : List Kind) (p : ℕ) (bs : Bytes) (w : Walk) → judged kd bs ≡ j
      → walk_after_k (and_then j ks) p (keep_read (purpose kd) (keep_all k w.fields) p bs) (kept_in k w)
      ≡ onto k (walk_after (and_then j ks) (record { kind = kd; place = p; bytes = bs }) w)
  unfolding walk_after_k and_then walk_after
  after-agrees (bad n) kd ks p bs w e = refl
  after-agrees (good new) kd ks p bs w e =
      ap (λ (x : Kept). fine (point (new ++ ks) x w.last_slash))
      (good-read kd bs new (keep_all k w.fields) p e ∙ sym (keep-last k w.fields (record { kind = kd; place = p; bytes = bs })))

  taken_at : (ks : List Kind) (p : ℕ) (bs : Bytes) (fs : List Field) (s : ℕ)
      → taken_k p bs (point ks (keep_all k fs) s) ≡ onto k (taken p bs (record { wanted = ks; fields = fs; last_slash = s }))
  unfolding taken_k taken take_next walk_after_k walk_after
  taken_at [] p bs fs s = refl
  taken_at (kd ∷ ks) p bs fs s = after-agrees (judged kd bs) kd ks p bs (record { wanted = kd ∷ ks; fields = fs; last_slash = s }) refl

  taken-agrees : (w : Walk) (p : ℕ) (bs : Bytes) → taken_k p bs (kept_in k w) ≡ onto k (taken p bs w)
  taken-agrees w p bs = taken_at w.wanted p bs w.fields w.last_slash

  -- ---- a cell, a line's cells, a record's lines

  past-agrees : (p : ℕ) (after : Bytes) (w : Walk) → past_slash_k p after (kept_in k w) ≡ onto k (past_slash p after w)
  unfolding past_slash_k past_slash
  past-agrees p after w = go (eqb (leading_blanks after) (length after))
    where
      go : (t : Bool)
          → (check t 7 (p + 1 + leading_blanks after) >>= λ _. fine (point w.wanted (keep_all k w.fields) p))
          ≡ onto k (check t 7 (p + 1 + leading_blanks after) >> fine (record { wanted = w.wanted; fields = w.fields; last_slash = p }))
      go true = refl
      go false = refl

  to-agrees : (m : Mark) (c : Cell) (w : Walk) → taken_to_k m c (kept_in k w) ≡ onto k (taken_to m c w)
  unfolding taken_to_k taken_to
  to-agrees at_line_end c w = refl
  to-agrees at_comma c w = taken-agrees w c.place c.bytes
  to-agrees (at_slash after) c w =
      rw (taken-agrees w c.place c.bytes)
      (then_agrees (taken c.place c.bytes w) (λ next. past_slash_k (mark_place c) after next) (λ next. past_slash (mark_place c) after next) (past-agrees (mark_place c) after))

  cells_agree : (cs : List Cell) (w : Walk) → walk_cells_k (kept_in k w) cs ≡ onto k (walk_cells w cs)
  unfolding walk_cells_k walk_cells
  cells_agree [] w = refl
  cells_agree (c ∷ cs) w = by-text (is_text (next_kind w.wanted)) (cells_agree cs)
    where
      by-text : (t : Bool) → ((v : Walk) → walk_cells_k (kept_in k v) cs ≡ onto k (walk_cells v cs))
          → cond t (taken_k c.place (trimmed c.rest) (kept_in k w)) (taken_to_k c.mark c (kept_in k w) >>= λ next. walk_cells_k next cs)
          ≡ onto k (cond t (taken c.place (trimmed c.rest) w) (taken_to c.mark c w >>= λ next. walk_cells next cs))
      by-text true ih = taken-agrees w c.place (trimmed c.rest)
      by-text false ih = rw (to-agrees c.mark c w) (then_agrees (taken_to c.mark c w) (λ next. walk_cells_k next cs) (λ next. walk_cells next cs) ih)

  lines-agree : (ls : List Line) (p : ℕ) (w : Walk) → walk_lines_k p (kept_in k w) ls ≡ onto k (walk_lines p w ls)
  unfolding walk_lines_k walk_lines
  lines-agree [] p w = refl
  lines-agree (l ∷ ls) p w =
      rw (cells_agree (cells_of p l) w)
      (then_agrees (walk_cells w (cells_of p l)) (λ next. walk_lines_k (p + size_of l) next ls) (λ next. walk_lines (p + size_of l) next ls) (lines-agree ls (p + size_of l)))

  -- ---- the record

  end-agrees : (o : Outcome Walk) → (onto k o >>= λ w. end_k w) ≡ (o >>= λ w. check (may_lack w.wanted) 8 w.last_slash >> fine w.fields) >>= λ fs. fine (keep_all k fs)
  unfolding end_k
  end-agrees (refused why) = refl
  end-agrees (fine w) = by_end (may_lack w.wanted)
    where
      by_end : (t : Bool) → (check t 8 w.last_slash >>= λ _. fine (keep_all k w.fields)) ≡ (check t 8 w.last_slash >> fine w.fields) >>= λ fs. fine (keep_all k fs)
      by_end true = refl
      by_end false = refl

  pub agrees : (c : Code) (r : Record) → walk_from (fields_of c) k r ≡ walk_record c r >>= λ fs. fine (keep_all k fs)
  unfolding walk_from walk_record keep_all
  agrees c r =
      let w : Walk = record { wanted = fields_of c; fields = []; last_slash = 0 } in
      rw (lines-agree r 0 w) (end-agrees (walk_lines 0 w r))
