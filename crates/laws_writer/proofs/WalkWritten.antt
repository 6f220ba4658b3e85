-- The reader's walk over a written line takes each field as it was given. Assumes nothing.
use mathlib.Core.Path.{◌≡◌, refl, sym, ap, ◌∙◌}
use mathlib.Core.Bool.{true, false}
use mathlib.Core.List.{List, [], ◌∷◌, ◌++◌, append_assoc}
use Prim.Native.Nat.{ℕ, suc, ◌+◌, ◌*◌, ◌≤◌}
use native.Mathlib.Omega.{arith}
use lib.Dec.{T}
use lib.ListN.{length, length-append}
use Rattle.rules.specs.Bytes.{Bytes, all, slash, comma, allowed, in_field, clean}
use Rattle.rules.specs.Outcome.{fine}
use Rattle.rules.specs.Cells.{cells_from, leading_blanks}
use Rattle.rules.specs.Grammar.{Kind, good, judged, is_text, and_then, take_next}
use Rattle.rules.specs.Records.{Field, Walk, walk_after, taken, past_slash, taken_to, walk_cells}
use Rattle.rules.specs.Writer.{with_commas}
use Rattle.rules.proofs.CellLaws.{plain_byte, cells-comma, cells-slash}
use Rattle.base_digits.proofs.DigitTests.{and_left, and_right}
use Rattle.laws_writer.proofs.FieldsWritten.{Takes, done, one}
use Rattle.laws_writer.proofs.LinesWritten.{all_of, all_both}

-- the fields, with their kinds and places, from place p on
unfoldable pub zipped : ℕ → List Kind → List Bytes → List Field
zipped p [] fs = []
zipped p (k ∷ ks) [] = []
zipped p (k ∷ ks) (f ∷ fs) = record { kind = k; place = p; bytes = f } ∷ zipped (suc (p + length f)) ks fs

-- the place of what stands after fields
unfoldable pub end_of : ℕ → List Bytes → ℕ
end_of p [] = p
end_of p (f ∷ []) = p + length f
end_of p (f ∷ g ∷ fs) = end_of (suc (p + length f)) (g ∷ fs)

abbrev pub walk_at : List Kind → List Field → ℕ → Walk
walk_at ks fs q = record { wanted = ks; fields = fs; last_slash = q }

-- ---- one field

plain-all : (f : Bytes) → clean f ≡ true → T (all plain_byte f)
plain-all f h = rw (all_of in_field plain_byte (λ b. and_right (allowed b) (plain_byte b)) f h) tt

module _ (k : Kind) (ks new next : List Kind) (p : ℕ) (f : Bytes) (acc : List Field) (q : ℕ)
    (c : clean f ≡ true) (t : is_text k ≡ false) (j : judged k f ≡ good new) (e : new ++ ks ≡ next) where
  abbrev taken-field : Field
  taken-field = record { kind = k; place = p; bytes = f }

  judge-field : taken p f (walk_at (k ∷ ks) acc q) ≡ fine (walk_at next (acc ++ (taken-field ∷ [])) q)
  unfolding taken take_next and_then walk_after
  judge-field = rw (j, e)

  -- up to its comma
  take-comma : (rest : Bytes) → walk_cells (walk_at (k ∷ ks) acc q) (cells_from p (f ++ (comma ∷ rest))) ≡ walk_cells (walk_at next (acc ++ (taken-field ∷ [])) q) (cells_from (suc (p + length f)) rest)
  unfolding walk_cells taken_to
  take-comma rest = rw (cells-comma p f rest (plain-all f c), t, judge-field)

  -- up to the slash that ends the line
  take-slash : walk_cells (walk_at (k ∷ ks) acc q) (cells_from p (f ++ (slash ∷ []))) ≡ fine (walk_at next (acc ++ (taken-field ∷ [])) (p + length f))
  unfolding walk_cells taken_to past_slash leading_blanks
  take-slash = rw (cells-slash p f [] (plain-all f c), t, judge-field)

-- ---- all fields

-- that a slash ends
pub walk-slash : {ks used left : List Kind} {f : Bytes} {fs : List Bytes} (p : ℕ) (acc : List Field) (q : ℕ) → Takes ks (f ∷ fs) used left
    → walk_cells (walk_at ks acc q) (cells_from p (with_commas (f ∷ fs) ++ (slash ∷ [])))
    ≡ fine (walk_at left (acc ++ zipped p used (f ∷ fs)) (end_of p (f ∷ fs)))
unfolding with_commas zipped end_of
walk-slash {ks = []} {used = used} {left = left} {f = f} {fs = fs} p acc q t = elim t [ ]
walk-slash {ks = k ∷ ks} {left = left} {f = f} {fs = []} p acc q (one {new = new} c s t j e done) = take-slash k ks new left p f acc q c t j e
walk-slash {ks = k ∷ ks} {f = f} {fs = g ∷ fs} p acc q (one {new = new} {next = next} {used = used} c s t j e r) =
    rw (append_assoc f (comma ∷ with_commas (g ∷ fs)) (slash ∷ []))
    (take-comma k ks new next p f acc q c t j e (with_commas (g ∷ fs) ++ (slash ∷ []))
    ∙ walk-slash (suc (p + length f)) (acc ++ (record { kind = k; place = p; bytes = f } ∷ [])) q r
    ∙ rw (append_assoc acc (record { kind = k; place = p; bytes = f } ∷ []) (zipped (suc (p + length f)) used (g ∷ fs))))

-- that a comma and more end: what is wanted after them is still wanted
pub walk-comma : {ks used left : List Kind} {f : Bytes} {fs : List Bytes} (tail : List Kind) (rest : Bytes) (p : ℕ) (acc : List Field) (q : ℕ)
    → Takes ks (f ∷ fs) used left
    → walk_cells (walk_at (ks ++ tail) acc q) (cells_from p (with_commas (f ∷ fs) ++ (comma ∷ rest)))
    ≡ walk_cells (walk_at (left ++ tail) (acc ++ zipped p used (f ∷ fs)) q) (cells_from (suc (end_of p (f ∷ fs))) rest)
unfolding with_commas zipped end_of
walk-comma {ks = []} {used = used} {left = left} {f = f} {fs = fs} tail rest p acc q t = elim t [ ]
walk-comma {ks = k ∷ ks} {left = left} {f = f} {fs = []} tail rest p acc q (one {new = new} c s t j e done) =
    take-comma k (ks ++ tail) new (left ++ tail) p f acc q c t j (sym (append_assoc new ks tail) ∙ ap (λ (l : List Kind). l ++ tail) e) rest
walk-comma {ks = k ∷ ks} {f = f} {fs = g ∷ fs} tail rest p acc q (one {new = new} {next = next} {used = used} c s t j e r) =
    rw (append_assoc f (comma ∷ with_commas (g ∷ fs)) (comma ∷ rest))
    (take-comma k (ks ++ tail) new (next ++ tail) p f acc q c t j
    (sym (append_assoc new ks tail) ∙ ap (λ (l : List Kind). l ++ tail) e) (with_commas (g ∷ fs) ++ (comma ∷ rest))
    ∙ walk-comma tail rest (suc (p + length f)) (acc ++ (record { kind = k; place = p; bytes = f } ∷ [])) q r
    ∙ rw (append_assoc acc (record { kind = k; place = p; bytes = f } ∷ []) (zipped (suc (p + length f)) used (g ∷ fs))))

-- ---- their bytes

clean-allowed : (f : Bytes) → clean f ≡ true → all allowed f ≡ true
clean-allowed f h = all_of in_field allowed (λ b. and_left (allowed b) (plain_byte b)) f h

pub fields-allowed : {ks used left : List Kind} {fs : List Bytes} → Takes ks fs used left → all allowed (with_commas fs) ≡ true
unfolding with_commas all
fields-allowed {fs = []} t = refl
fields-allowed {fs = f ∷ []} (one c s t j e r) = clean-allowed f c
fields-allowed {fs = f ∷ g ∷ fs} (one c s t j e r) = all_both allowed f (comma ∷ with_commas (g ∷ fs)) (clean-allowed f c) (fields-allowed r)

pub fields-short : {ks used left : List Kind} {fs : List Bytes} → Takes ks fs used left → length (with_commas fs) ≤ 77 * length fs
unfolding with_commas
fields-short {fs = []} t = omega arith
fields-short {fs = f ∷ []} (one c s t j e r) = omega arith
fields-short {fs = f ∷ g ∷ fs} (one c s t j e r) = rw (length-append f (comma ∷ with_commas (g ∷ fs))) (omega (arith, fields-short r))
