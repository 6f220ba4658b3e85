-- What the walk gives at each place that the code reaches, by indices into the record. Assumes nothing.
use Prim.Native.Nat.{ℕ, suc, ◌+◌, ◌-◌, ◌≤◌, ◌<◌}
use mathlib.Core.Path.{◌≡◌, ap, sym, ◌∙◌}
use mathlib.Core.Bool.{true, false}
use mathlib.Core.List.{List, [], ◌∷◌}
use native.Mathlib.Omega.{arith}
use borrow.Author.Tests.{eq-eqb, ne_eqb, eqb-true, eqb-false}
use lib.Dec.{eqb}
use lib.ListN.{length, take, drop, get_or, length-take, length-drop, drop_of_length-le}
use lib.Seq.{slice, length-slice, length-take-le, drop-drop}
use Rattle.rules.specs.Bytes.{Bytes, slash, trimmed}
use Rattle.rules.specs.Outcome.{Outcome, refuse, fine, ◌>>=◌}
use Rattle.rules.specs.Lines.{Line, size_of, lines_of}
use Rattle.rules.specs.Cells.{Cell, cells_from, cells_of, leading_blanks}
use Rattle.rules.specs.Grammar.{Kind, bad, good, and_then, take_next, next_kind, is_text}
use Rattle.rules.proofs.Tests.{Known, holds, fails, known}
use Rattle.read_lines.specs.LineLengths.{body_len, line_len, first_line}
use Rattle.read_wanted.specs.Wants.{purpose}
use Rattle.std.specs.Prelude.{Some, None}
use Rattle.read_field_ends.specs.FieldLengths.{field_len, extent_of}
use Rattle.read_field_ends.proofs.FieldLengthLaws.{extent-short, extent-open, extent-text, extent-within}
use Rattle.read_kept.specs.declared.Kept.{Kept}
use Rattle.read_kept.specs.KeepFields.{keep_read}
use Rattle.read_kept.proofs.EachKind.{told}
use Rattle.read_walk.specs.WalkKept.{WalkK, point, walk_after_k, taken_k, past_slash_k, taken_to_k, walk_cells_k, walk_lines_k, end_k, walk_from}
use Rattle.read_lines.proofs.LineLaws.{lines-here}
use Rattle.read_walk.proofs.LineParts.{part-front, part-back, part-get, line-size, line-fields, text-empty}
use Rattle.read_walk.proofs.FirstCells.{first-open, first-comma, first-slash, comma-there, Starts, starts, cells-start}

-- ---- a field that was judged

module _ (p : ℕ) (bs : Bytes) (w : WalkK) where
  pub took-bad : (n : ℕ) → take_next w.wanted bs ≡ bad n → taken_k p bs w ≡ refuse n p
  unfolding taken_k walk_after_k
  took-bad n e = rw e

  pub took-good : (ks : List Kind) (k : Kept) → take_next w.wanted bs ≡ good ks → k ≡ keep_read (purpose (next_kind w.wanted)) w.kept p bs
      → taken_k p bs w ≡ fine (point ks k w.last_slash)
  unfolding taken_k walk_after_k
  took-good ks k e q = rw (e, ← q)

-- ---- what is left of a line, xs at a, by the length of its first field

module _ (w : WalkK) (a : ℕ) (xs : Bytes) where
  -- a text takes it all
  whole : (cs : List Cell) → Starts a xs cs → is_text (next_kind w.wanted) ≡ true → walk_cells_k w cs ≡ taken_k a (trimmed xs) w
  unfolding walk_cells_k
  whole cs (starts bs m rest) t = rw t

  -- the line ends before a comma or slash
  pub at_open : None ≡ extent_of (is_text (next_kind w.wanted)) xs → walk_cells_k w (cells_from a xs) ≡ refuse 7 (a + length xs)
  unfolding walk_cells_k taken_to_k
  at_open extent =
      let z = extent-open (is_text (next_kind w.wanted)) xs extent in
      rw (first-open a xs z.1, z.0)

  module _ (n : ℕ) (extent : Some n ≡ extent_of (is_text (next_kind w.wanted)) xs) where
    pub at-text : is_text (next_kind w.wanted) ≡ true → walk_cells_k w (cells_from a xs) ≡ taken_k a (take n xs) w
    at-text t = whole (cells_from a xs) (cells-start a xs) t ∙ ap (λ (bs : Bytes). taken_k a bs w) (sym (extent-text xs n (rw t at extent)))

    module _ (nt : is_text (next_kind w.wanted) ≡ false) where
      short : (n ≡ field_len xs) × (n < length xs)
      short = extent-short xs n (rw nt at extent)

      pub at-comma : (get_or xs n 0 ≡ slash → ⊥) → walk_cells_k w (cells_from a xs) ≡ (taken_k a (take n xs) w >>= λ v. walk_cells_k v (cells_from (suc (a + n)) (drop (suc n) xs)))
      unfolding walk_cells_k taken_to_k
      at-comma m = rw (first-comma xs n short.0 short.1 a (comma-there xs n short.0 short.1 m), nt)

      pub at-slash : get_or xs n 0 ≡ slash → walk_cells_k w (cells_from a xs) ≡ ((taken_k a (take n xs) w >>= λ v. past_slash_k (a + n) (drop (suc n) xs) v) >>= λ v. fine v)
      unfolding walk_cells_k taken_to_k
      at-slash m = rw (first-slash xs n short.0 short.1 a m, nt, length-take-le n xs (omega (arith, short.1)))

    -- a field that is refused stops the walk there
    pub at-wrong : (k : ℕ) → taken_k a (take n xs) w ≡ refuse k a → walk_cells_k w (cells_from a xs) ≡ refuse k a
    at-wrong k e = go (known (is_text (next_kind w.wanted))) (known (eqb (get_or xs n 0) slash))
      where
        go : Known (is_text (next_kind w.wanted)) → Known (eqb (get_or xs n 0) slash) → walk_cells_k w (cells_from a xs) ≡ refuse k a
        go (holds t) m = at-text t ∙ e
        go (fails t) (holds m) = at-slash t (eqb-true (get_or xs n 0) slash m) ∙ rw e
        go (fails t) (fails m) = at-comma t (eqb-false (get_or xs n 0) slash m) ∙ rw e

-- ---- what is left of a line from a to its end e

module _ (s : Bytes) (w : WalkK) (a e : ℕ) (ae : a ≤ e) (es : e ≤ length s) where
  long : length (slice a e s) ≡ e - a
  long = length-slice a e s es

  pub open-here : None ≡ extent_of (is_text (next_kind w.wanted)) (slice a e s) → walk_cells_k w (cells_from a (slice a e s)) ≡ refuse 7 e
  open-here extent = at_open w a (slice a e s) extent ∙ ap (λ (n : ℕ). refuse 7 n) (omega (arith, long))

  module _ (n : ℕ) (extent : Some n ≡ extent_of (is_text (next_kind w.wanted)) (slice a e s)) where
    pub field-within : a + n ≤ e
    field-within = omega (arith, long, extent-within (is_text (next_kind w.wanted)) (slice a e s) n extent)

    field : take n (slice a e s) ≡ slice a (a + n) s
    field = part-front s a e n field-within

    pub wrong-here : (k : ℕ) → taken_k a (slice a (a + n) s) w ≡ refuse k a → walk_cells_k w (cells_from a (slice a e s)) ≡ refuse k a
    wrong-here k t = at-wrong w a (slice a e s) n extent k (rw field t)

    pub text-here : (v : WalkK) → is_text (next_kind w.wanted) ≡ true → taken_k a (slice a (a + n) s) w ≡ fine v → walk_cells_k w (cells_from a (slice a e s)) ≡ fine v
    text-here v t k = at-text w a (slice a e s) n extent t ∙ rw field k

    module _ (nt : is_text (next_kind w.wanted) ≡ false) where
      pub field-short : a + n < e
      field-short = omega (arith, long, (extent-short (slice a e s) n (rw nt at extent)).1)

      mark : get_or (slice a e s) n 0 ≡ get_or s (a + n) 0
      mark = part-get s a e n field-short

      rest : drop (suc n) (slice a e s) ≡ slice (a + n + 1) e s
      rest = part-back s a e n field-within

      module _ (v : WalkK) (k : taken_k a (slice a (a + n) s) w ≡ fine v) where
        pub comma-here : (get_or s (a + n) 0 ≡ slash → ⊥) → walk_cells_k w (cells_from a (slice a e s)) ≡ walk_cells_k v (cells_from (a + n + 1) (slice (a + n + 1) e s))
        comma-here m =
            let q : suc (a + n) ≡ a + n + 1 = omega arith in
            at-comma w a (slice a e s) n extent nt (rw mark m) ∙ rw (field, k, rest, q)

        module _ (m : get_or s (a + n) 0 ≡ slash) (t : ℕ) (ht : t ≡ a + n + 1 + leading_blanks (slice (a + n + 1) e s)) where
          slash-here : walk_cells_k w (cells_from a (slice a e s)) ≡ (past_slash_k (a + n) (slice (a + n + 1) e s) v >>= λ u. fine u)
          slash-here = at-slash w a (slice a e s) n extent nt (rw mark m) ∙ rw (field, k, rest)

          after : length (slice (a + n + 1) e s) ≡ e - (a + n + 1)
          after = length-slice (a + n + 1) e s es

          pub blanks-here : e ≤ t → t ≤ e → walk_cells_k w (cells_from a (slice a e s)) ≡ fine (point v.wanted v.kept (a + n))
          unfolding past_slash_k
          blanks-here p q =
              slash-here ∙ rw (eq-eqb (leading_blanks (slice (a + n + 1) e s)) (length (slice (a + n + 1) e s)) (omega (arith, after, field-short)))

          pub byte-here : t < e → walk_cells_k w (cells_from a (slice a e s)) ≡ refuse 7 t
          unfolding past_slash_k
          byte-here p =
              slash-here ∙ rw (ne_eqb (leading_blanks (slice (a + n + 1) e s)) (length (slice (a + n + 1) e s)) (λ q. omega (arith, after)), ← ht)

-- no byte of a line after its code: 7 at its fourth byte
no_cells : (w : WalkK) (a : ℕ) → Known (is_text (next_kind w.wanted)) → walk_cells_k w (cells_from a []) ≡ refuse 7 a
unfolding walk_cells_k cells_from taken_to_k trimmed
no_cells w a (holds t) = rw t (took-bad a [] w 7 (text-empty w.wanted t))
no_cells w a (fails t) = rw t (ap (λ (n : ℕ). refuse 7 n) (omega arith))

pub short-here : (s : Bytes) (w : WalkK) (a e : ℕ) → e < a → walk_cells_k w (cells_from a (slice a e s)) ≡ refuse 7 a
short-here s w a e h =
    let z : slice a e s ≡ [] = drop_of_length-le (take e s) {i = a} (rw length-take (omega arith)) in
    rw z (no_cells w a (known (is_text (next_kind w.wanted))))

-- ---- a line that starts at `at` and ends at e, before the one at n

module _ (s : Bytes) (at e n : ℕ) (h : at < length s) (he : e ≡ at + body_len (drop at s)) (hn : n ≡ at + line_len (drop at s)) (w : WalkK) where
  line_first : walk_lines_k at w (lines_of (drop at s)) ≡ walk_cells_k w (cells_from (at + 3) (slice (at + 3) e s)) >>= λ next. walk_lines_k n next (lines_of (drop n s))
  unfolding walk_lines_k cells_of
  line_first = rw (lines-here s at n h hn, line-size s at e n he hn, line-fields s at e n he hn)

  pub line-stop : (k q : ℕ) → walk_cells_k w (cells_from (at + 3) (slice (at + 3) e s)) ≡ refuse k q → walk_lines_k at w (lines_of (drop at s)) ≡ refuse k q
  line-stop k q r = line_first ∙ rw r

  pub line-go : (v : WalkK) → walk_cells_k w (cells_from (at + 3) (slice (at + 3) e s)) ≡ fine v → walk_lines_k at w (lines_of (drop at s)) ≡ walk_lines_k n v (lines_of (drop n s))
  line-go v r = line_first ∙ rw r

-- ---- the record

pub lines_end : (s : Bytes) (w : WalkK) (at : ℕ) → length s ≤ at → walk_lines_k at w (lines_of (drop at s)) ≡ fine w
unfolding walk_lines_k lines_of
lines_end s w at h = rw (drop_of_length-le s {i = at} h)

-- from the point that the code starts at
module _ (ks : List Kind) (k : Kept) (ls : List Line) (first : WalkK) (is : first ≡ point ks k 0) where
  pub from-stop : (n q : ℕ) → walk_lines_k 0 first ls ≡ refuse n q → refuse n q ≡ walk_from ks k ls
  unfolding walk_from
  from-stop n q e = sym (rw (← is, e))

  pub from_end : (w : WalkK) (o : Outcome Kept) → walk_lines_k 0 first ls ≡ fine w → o ≡ end_k w → o ≡ walk_from ks k ls
  unfolding walk_from
  from_end w o e q = q ∙ sym (rw (← is, e))
