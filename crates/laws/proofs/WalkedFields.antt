-- What holds of every field of a record that was read, an invariant of the walk; so L is at least 48, and only 03 and 16 have amounts. Assumes nothing.
use Prim.Native.Nat.{ℕ, ◌+◌, ◌≤◌}
use mathlib.Core.Path.{◌≡◌, refl, subst, ◌∙◌}
use mathlib.Core.Bool.{Bool, true, false, cond, ◌||◌}
use mathlib.Core.List.{List, [], ◌∷◌, ◌++◌}
use native.Mathlib.Omega.{arith}
use lib.Dec.{T, leb, eqb, leb→le}
use borrow.Author.Tests.{ne_eqb, leb-true}
use lib.ListN.{length}
use Rattle.rules.specs.Bytes.{Bytes, trimmed, is_empty, between, same_bytes}
use Rattle.rules.specs.Outcome.{Outcome, refused, fine, ◌>>=◌, check, or_else}
use Rattle.rules.specs.Lines.{Line, size_of, Code, file_header, group_header, account_trailer, group_trailer, file_trailer, Record}
use Rattle.rules.specs.Cells.{Mark, at_comma, at_slash, at_line_end, Cell, mark_place, cells_of, leading_blanks}
use Rattle.rules.specs.Numbers.{zero_sum, number, digits}
use Rattle.rules.specs.Grammar.{Kind, physical_length, kind_number, same_kind, Judged, bad, good, and_then, take_next, next_kind, is_text, judged, fields_of, may_lack, is_length}
use Rattle.rules.specs.Records.{Field, Walk, walk_after, taken, past_slash, taken_to, walk_cells, walk_lines, walk_record, the}
use Rattle.rules.specs.Totals.{amount_of, sum_of}
use Rattle.rules.specs.Order.{among}
use Rattle.rules.specs.Verdict.{limit_given}
use Rattle.rules.specs.Limits.{longest_line}
use Rattle.rules.specs.Parts.{fields_in}
use Rattle.rules.proofs.Tests.{Known, holds, fails, known, and_left, and_right}
use Rattle.rules.proofs.Binds.{refused-fine, from-bind, then-fine, fine-same}
use Rattle.laws.specs.LawWords.{All}
use Rattle.laws.proofs.Codes.{of-each}
use Rattle.laws.proofs.FieldValues.{simple, Says, judged-says}

-- ---- an invariant of the walk

-- a field that was read
abbrev field : Kind → ℕ → Bytes → Field
field k p bs = record { kind = k; place = p; bytes = bs }

-- I holds of what is wanted and of the fields read, and a good field keeps it
module _ (I : List Kind → List Field → Type 0)
    (keeps : (k : Kind) (ks new : List Kind) (fs : List Field) (p : ℕ) (bs : Bytes) → I (k ∷ ks) fs → judged k bs ≡ good new → I (new ++ ks) (fs ++ (field k p bs ∷ []))) where
  abbrev Holds : Walk → Type 0
  Holds w = I w.wanted w.fields

  after-keeps : (j : Judged) (k : Kind) (ks : List Kind) (p : ℕ) (bs : Bytes) (w v : Walk) → judged k bs ≡ j → I (k ∷ ks) w.fields
      → walk_after (and_then j ks) (field k p bs) w ≡ fine v → Holds v
  unfolding walk_after and_then
  after-keeps (bad n) k ks p bs w v e i h = absurd (refused-fine _ v h)
  after-keeps (good new) k ks p bs w v e i h =
      subst Holds (fine-same (record { wanted = new ++ ks; fields = w.fields ++ (field k p bs ∷ []); last_slash = w.last_slash }) v h) (keeps k ks new w.fields p bs i e)

  next-keeps : (ks : List Kind) (p : ℕ) (bs : Bytes) (w v : Walk) → I ks w.fields → walk_after (take_next ks bs) (field (next_kind ks) p bs) w ≡ fine v → Holds v
  unfolding walk_after take_next
  next-keeps [] p bs w v i h = absurd (refused-fine _ v h)
  next-keeps (k ∷ ks) p bs w v i h = after-keeps (judged k bs) k ks p bs w v refl i h

  taken-keeps : (p : ℕ) (bs : Bytes) (w v : Walk) → Holds w → taken p bs w ≡ fine v → Holds v
  unfolding taken
  taken-keeps p bs w v i h = next-keeps w.wanted p bs w v i h

  to-keeps : (m : Mark) (c : Cell) (w v : Walk) → Holds w → taken_to m c w ≡ fine v → Holds v
  unfolding taken_to past_slash
  to-keeps at_line_end c w v i h = absurd (refused-fine _ v h)
  to-keeps at_comma c w v i h = taken-keeps c.place c.bytes w v i h
  to-keeps (at_slash after) c w v i h =
      from-bind (taken c.place c.bytes w) _ v h (λ u first rest.
      subst Holds (fine-same (record { wanted = u.wanted; fields = u.fields; last_slash = mark_place c }) v
      (then-fine (check (eqb (leading_blanks after) (length after)) 7 (mark_place c + 1 + leading_blanks after)) _ v rest))
      (taken-keeps c.place c.bytes w u i first))

  cells-step : (c : Cell) (cs : List Cell) (w v : Walk) → Holds w → ((u : Walk) → Holds u → walk_cells u cs ≡ fine v → Holds v) → (t : Bool)
      → cond t (taken c.place (trimmed c.rest) w) (taken_to c.mark c w >>= λ next. walk_cells next cs) ≡ fine v → Holds v
  cells-step c cs w v i ih true h = taken-keeps c.place (trimmed c.rest) w v i h
  cells-step c cs w v i ih false h = from-bind (taken_to c.mark c w) _ v h (λ u first rest. ih u (to-keeps c.mark c w u i first) rest)

  pub cells-keep : (cs : List Cell) (w v : Walk) → Holds w → walk_cells w cs ≡ fine v → Holds v
  unfolding walk_cells
  cells-keep [] w v i h = subst Holds (fine-same w v h) i
  cells-keep (c ∷ cs) w v i h = cells-step c cs w v i (λ u j k. cells-keep cs u v j k) (is_text (next_kind w.wanted)) h

  pub lines_keep : (p : ℕ) (ls : List Line) (w v : Walk) → Holds w → walk_lines p w ls ≡ fine v → Holds v
  unfolding walk_lines
  lines_keep p [] w v i h = subst Holds (fine-same w v h) i
  lines_keep p (l ∷ ls) w v i h =
      from-bind (walk_cells w (cells_of p l)) _ v h (λ u first rest. lines_keep (p + size_of l) ls u v (cells-keep (cells_of p l) w u i first) rest)

  walk-keeps : (c : Code) (r : Record) (fs : List Field) → I (fields_of c) [] → walk_record c r ≡ fine fs → (ks : List Kind) × I ks fs
  unfolding walk_record
  walk-keeps c r fs i h =
      let first : Walk = record { wanted = fields_of c; fields = []; last_slash = 0 } in
      from-bind (walk_lines 0 first r) _ fs h (λ w walked rest. (
        w.wanted,
        subst (I w.wanted) (fine-same w.fields fs (then-fine (check (may_lack w.wanted) 8 w.last_slash) _ fs rest)) (lines_keep 0 r first w i walked),
      ))

-- ---- a record whose kinds of field are all simple

-- all wanted are simple, the fields add nothing, and a length is a good one
abbrev length_in : List Field → Bytes
length_in fs = (the physical_length fs).bytes

record Plain (ks : List Kind) (fs : List Field) : Type 0 where
  wanted : All (λ k. T (simple k)) ks
  nothing : sum_of fs ≡ zero_sum
  good_length : T (is_empty (length_in fs) || is_length (length_in fs))

-- a simple kind is no amount
no-amount : (n m : ℕ) → T (leb n 13 || between 27 29 n) → 14 ≤ m → m ≤ 26 → eqb n m ≡ false
no-amount n m s lo hi = ne_eqb n m (λ e. go (known (leb n 13)) e)
  where
    go : Known (leb n 13) → n ≡ m → ⊥
    go (holds t) e = omega (arith, leb-true n 13 t)
    go (fails t) e =
        let b : T (between 27 29 n) = rw t at s in
        omega (arith, leb→le 27 n (and_left (leb 27 n) (leb n 29) b))

simple-zero : (f : Field) → T (simple f.kind) → amount_of f ≡ zero_sum
unfolding amount_of
simple-zero f s = rw (no-amount (kind_number f.kind) 17 s (omega arith) (omega arith), no-amount (kind_number f.kind) 16 s (omega arith) (omega arith))

sum-one-more : (fs : List Field) (f : Field) → amount_of f ≡ zero_sum → sum_of (fs ++ (f ∷ [])) ≡ sum_of fs
unfolding sum_of
sum-one-more [] f z = rw z
sum-one-more (g ∷ fs) f z = rw (sum-one-more fs f z)

-- the first length of fields, and of one more
abbrev Good : Bytes → Type 0
Good bs = T (is_empty bs || is_length bs)

first_good : (t : Bool) (f g : Field) → (T t → Good f.bytes) → Good g.bytes → Good (cond t f g).bytes
first_good true f g h k = h tt
first_good false f g h k = k

same_first : (t : Bool) (f g g' : Field) → (Good g.bytes → Good g'.bytes) → Good (cond t f g).bytes → Good (cond t f g').bytes
same_first true f g g' h k = k
same_first false f g g' h k = h k

length_more : (fs : List Field) (f : Field) → (T (same_kind physical_length f.kind) → Good f.bytes) → Good (length_in fs) → Good (length_in (fs ++ (f ∷ [])))
unfolding the
length_more [] f h k = first_good (same_kind physical_length f.kind) f (the physical_length []) h k
length_more (g ∷ fs) f h k = same_first (same_kind physical_length g.kind) g (the physical_length fs) (the physical_length (fs ++ (f ∷ []))) (length_more fs f h) k

plain-keeps : (k : Kind) (ks new : List Kind) (fs : List Field) (p : ℕ) (bs : Bytes) → Plain (k ∷ ks) fs → judged k bs ≡ good new
    → Plain (new ++ ks) (fs ++ (field k p bs ∷ []))
plain-keeps k ks new fs p bs i e =
    let said = subst (Says k bs) e (judged-says k bs) i.wanted.0 in
    record {
      wanted = rw said.0 i.wanted.1;
      nothing = sum-one-more fs (field k p bs) (simple-zero (field k p bs) i.wanted.0) ∙ i.nothing;
      good_length = length_more fs (field k p bs) said.1 i.good_length;
    }

plain-read : (c : Code) (r : Record) (fs : List Field) → All (λ k. T (simple k)) (fields_of c) → walk_record c r ≡ fine fs → Plain [] fs
unfolding sum_of the is_empty
plain-read c r fs s h =
    let i = (walk-keeps Plain plain-keeps c r fs (record { wanted = s; nothing = refl; good_length = tt }) h).1 in
    record { wanted = tt; nothing = i.nothing; good_length = i.good_length }

-- so only 03 and 16 have amounts
abbrev pub amountless : List Code
amountless = file_header ∷ group_header ∷ account_trailer ∷ group_trailer ∷ file_trailer ∷ []

simple-fields : (c : Code) → T (among c amountless) → All (λ k. T (simple k)) (fields_of c)
unfolding fields_of
simple-fields c h =
    of-each (λ b. All (λ k. T (simple k)) (fields_of b)) amountless (
      (tt, (tt, (tt, (tt, (tt, (tt, (tt, (tt, tt)))))))),
      ((tt, (tt, (tt, (tt, (tt, (tt, (tt, tt))))))), ((tt, (tt, tt)), ((tt, (tt, (tt, tt))), ((tt, (tt, (tt, tt))), tt)))),
    )
    c h

pub no-amounts : (c : Code) (r : Record) → T (among c amountless) → sum_of (fields_in c r) ≡ zero_sum
unfolding fields_in sum_of
no-amounts c r h = go (walk_record c r) refl
  where
    go : (o : Outcome (List Field)) → walk_record c r ≡ o → sum_of (or_else o []) ≡ zero_sum
    go (refused why) e = refl
    go (fine fs) e = (plain-read c r fs (simple-fields c h) e).nothing

-- and L, where a 01 gives it, is at least 48
at-least-48 : (bs : Bytes) → Good bs → 48 ≤ cond (is_empty bs) longest_line (number bs)
unfolding is_empty is_length
at-least-48 [] h = omega arith
at-least-48 (b ∷ bs) h =
    let n = number (b ∷ bs) in
    leb→le 48 n (and_left (leb 48 n) (leb n 4096) (and_right (digits 1 4 (b ∷ bs)) (between 48 4096 n) h))

pub limit-48 : (r : Record) (fs : List Field) → walk_record file_header r ≡ fine fs → 48 ≤ limit_given longest_line fs
unfolding limit_given among same_bytes
limit-48 r fs h = at-least-48 (length_in fs) (plain-read file_header r fs (simple-fields file_header tt) h).good_length
