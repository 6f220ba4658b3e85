-- What the walk yields at each place that the code reaches: in a line by the length of its first field, in a record by its first line. Assumes nothing.
use Prim.Native.Nat.{ℕ, suc, ◌+◌, ◌≤◌, ◌<◌}
use native.Mathlib.Omega.{arith}
use mathlib.Core.Path.{◌≡◌, sym, ap, ◌∙◌}
use mathlib.Core.Bool.{true, false}
use mathlib.Core.List.{List, []}
use borrow.Author.Tests.{eq-eqb, ne_eqb, eqb-true, eqb-false}
use lib.Dec.{eqb}
use lib.ListN.{length, take, drop, get_or, length-take, length-drop, drop_of_length-le}
use lib.Seq.{slice, length-take-le}
use Rattle.rules.specs.Bytes.{Bytes, slash, trimmed}
use Rattle.rules.specs.Cells.{Cell, cells_from, cells_of, leading_blanks}
use Rattle.rules.specs.Grammar.{Kind, bad, good, take_next, next_kind, is_text}
use Rattle.rules.proofs.Tests.{Known, holds, fails, known}
use Rattle.read_lines.specs.LineLengths.{body_len, line_len}
use Rattle.read_field_ends.specs.FieldLengths.{field_len, extent_of}
use Rattle.read_field_ends.proofs.FieldLengthLaws.{extent-short, extent-open, extent-text}
use Rattle.read_walk.proofs.LineParts.{line-size, line-fields, text-empty}
use Rattle.read_walk.proofs.FirstCells.{first-open, first-comma, first-slash, comma-there, Starts, starts, cells-start}
use Rattle.find_next.specs.CursorMeaning.{own_line, lines_from}
use Rattle.find_next.proofs.OwnLines.{own-here, own-over}
use Rattle.std.specs.Prelude.{Some, None}
use Rattle.find_next.specs.FieldTrace.{Trace, yields, stop_at, field_at, trace_after, trace_taken, trace_past_slash, trace_taken_to, trace_cells, trace_end, trace_lines}

-- ---- what is left of a line, xs at p

module _ (ks : List Kind) (s p : ℕ) (xs : Bytes) (go : List Kind → ℕ → Trace) where
  abbrev here : Trace
  here = trace_cells ks s (cells_from p xs) go

  -- the line ends before a comma or slash
  pub at_open : None ≡ extent_of (is_text (next_kind ks)) xs → here ≡ stop_at 7 (p + length xs)
  unfolding trace_cells trace_taken_to
  at_open extent = let z = extent-open (is_text (next_kind ks)) xs extent in rw (first-open p xs z.1, z.0)

  -- a text takes it all
  whole : (cs : List Cell) → Starts p xs cs → is_text (next_kind ks) ≡ true → trace_cells ks s cs go ≡ trace_taken ks p (trimmed xs) (λ next. go next s)
  unfolding trace_cells
  whole cs (starts bs m rest) t = rw t

  -- its first field has n bytes
  module _ (n : ℕ) (extent : Some n ≡ extent_of (is_text (next_kind ks)) xs) where
    at-text : is_text (next_kind ks) ≡ true → here ≡ trace_taken ks p (take n xs) (λ next. go next s)
    at-text t = whole (cells_from p xs) (cells-start p xs) t ∙ ap (λ (bs : Bytes). trace_taken ks p bs (λ next. go next s)) (sym (extent-text xs n (rw t at extent)))

    module _ (nt : is_text (next_kind ks) ≡ false) where
      pub short : (n ≡ field_len xs) × (n < length xs)
      short = extent-short xs n (rw nt at extent)

      at-slash : get_or xs n 0 ≡ slash
          → here ≡ trace_past_slash (take_next ks (take n xs)) (field_at ks p (take n xs)) (p + n) (drop (suc n) xs) (λ next. go next (p + n))
      unfolding trace_cells trace_taken_to
      at-slash m = rw (first-slash xs n short.0 short.1 p m, nt, length-take-le n xs (omega (arith, short.1)))

      at-comma : (get_or xs n 0 ≡ slash → ⊥) → here ≡ trace_taken ks p (take n xs) (λ next. trace_cells next s (cells_from (suc (p + n)) (drop (suc n) xs)) go)
      unfolding trace_cells trace_taken_to
      at-comma m = rw (first-comma xs n short.0 short.1 p (comma-there xs n short.0 short.1 m), nt)

    -- it is refused
    pub wrong : (m : ℕ) → take_next ks (take n xs) ≡ bad m → here ≡ stop_at m p
    unfolding trace_taken trace_after trace_past_slash
    wrong m e = by-mark (known (is_text (next_kind ks))) (known (eqb (get_or xs n 0) slash))
      where
        by-mark : Known (is_text (next_kind ks)) → Known (eqb (get_or xs n 0) slash) → here ≡ stop_at m p
        by-mark (holds t) d = at-text t ∙ rw e
        by-mark (fails t) (holds d) = at-slash t (eqb-true (get_or xs n 0) slash d) ∙ rw e
        by-mark (fails t) (fails d) = at-comma t (eqb-false (get_or xs n 0) slash d) ∙ rw e

    -- it is good
    module _ (next : List Kind) (e : take_next ks (take n xs) ≡ good next) where
      pub past-text : is_text (next_kind ks) ≡ true → here ≡ yields (field_at ks p (take n xs)) (go next s)
      unfolding trace_taken trace_after
      past-text t = at-text t ∙ rw e

      module _ (nt : is_text (next_kind ks) ≡ false) where
        pub past-comma : (get_or xs n 0 ≡ slash → ⊥) → here ≡ yields (field_at ks p (take n xs)) (trace_cells next s (cells_from (suc (p + n)) (drop (suc n) xs)) go)
        unfolding trace_taken trace_after
        past-comma m = at-comma nt m ∙ rw e

        -- t: where the blanks after the slash end
        module _ (m : get_or xs n 0 ≡ slash) (t : ℕ) (ht : t ≡ n + 1 + leading_blanks (drop (n + 1) xs)) where
          after : drop (suc n) xs ≡ drop (n + 1) xs
          after = let q : suc n ≡ n + 1 = omega arith in ap (λ (i : ℕ). drop i xs) q

          pub past_slash : length xs ≤ t → t ≤ length xs → here ≡ yields (field_at ks p (take n xs)) (go next (p + n))
          unfolding trace_past_slash
          past_slash low high =
              at-slash nt m
              ∙ rw (e, after, eq-eqb (leading_blanks (drop (n + 1) xs)) (length (drop (n + 1) xs)) (omega (arith, length-drop (n + 1) xs, (short nt).1)))

          pub stray : t < length xs → here ≡ stop_at 7 (p + t)
          unfolding trace_past_slash
          stray low =
              let place : p + n + 1 + leading_blanks (drop (n + 1) xs) ≡ p + t = omega arith in
              at-slash nt m
              ∙ rw (e, after, ne_eqb (leading_blanks (drop (n + 1) xs)) (length (drop (n + 1) xs)) (λ q. omega (arith, length-drop (n + 1) xs)), place)

-- ---- a line with no byte after its code

no_cells : (ks : List Kind) (s p : ℕ) (go : List Kind → ℕ → Trace) → Known (is_text (next_kind ks)) → trace_cells ks s (cells_from p []) go ≡ stop_at 7 p
unfolding trace_cells cells_from trace_taken trace_after trace_taken_to trimmed
no_cells ks s p go (holds t) = rw (t, text-empty ks t)
no_cells ks s p go (fails t) = rw t (ap (λ (n : ℕ). stop_at 7 n) (omega arith))

-- ---- the record's line that starts at `at` and ends at e, before the one at n

module _ (rec : Bytes) (least at e n : ℕ) (own : own_line least at (drop at rec) ≡ true) (he : e ≡ at + body_len (drop at rec)) (hn : n ≡ at + line_len (drop at rec)) (ks : List Kind) (s : ℕ) where
  pub line_first : lines_from rec least at ks s ≡ trace_cells ks s (cells_from (at + 3) (slice (at + 3) e rec)) (lines_from rec least n)
  unfolding trace_lines cells_of
  line_first = rw (own-here rec least at n hn own, line-size rec at e n he hn, line-fields rec at e n he hn)

  -- it is too short
  pub short-line : e < at + 3 → lines_from rec least at ks s ≡ stop_at 7 (at + 3)
  short-line q =
      let z : slice (at + 3) e rec ≡ [] = drop_of_length-le (take e rec) {i = at + 3} (rw length-take (omega arith)) in
      line_first ∙ rw z (no_cells ks s (at + 3) (lines_from rec least n) (known (is_text (next_kind ks))))

-- the record is over
pub lines-over : (rec : Bytes) (least : ℕ) (ks : List Kind) (s at : ℕ) → own_line least at (drop at rec) ≡ false → lines_from rec least at ks s ≡ trace_end ks s
unfolding trace_lines
lines-over rec least ks s at h = rw (own-over rec least at h)
