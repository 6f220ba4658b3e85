-- What a draft says once a code, a field or a text is put: what the rules' part says of it (specs/DraftMeaning.antt). Assumes nothing.
use mathlib.Core.Path.{◌≡◌, refl, ap, ◌∙◌}
use mathlib.Core.Bool.{Bool, true, cond, ◌&&◌}
use mathlib.Core.List.{List, [], ◌∷◌, ◌++◌}
use mathlib.Core.Logic.{⊎_elim}
use Prim.Native.Nat.{ℕ, ◌+◌, ◌≤◌}
use native.Mathlib.Omega.{arith}
use lib.Dec.{leb}
use lib.ListN.{length, take, length-append, length-replicate}
use lib.Seq.{length-take-le, take_all}
use borrow.Author.Tests.{lt-leb, leb-true}
use Rattle.rules.specs.Bytes.{Bytes, comma, slash, is_empty, clean}
use Rattle.rules.specs.Outcome.{Outcome, fine, ◌>>=◌, check}
use Rattle.rules.specs.Lines.{Code, code_bytes}
use Rattle.rules.specs.Grammar.{Kind, Judged, bad, good, take_next}
use Rattle.rules.specs.Writer.{or_twenty, good_text}
use Rattle.rules.proofs.Tests.{Known, holds, fails, known}
use Rattle.base_digits.proofs.DigitTests.{below-or-from, and_right}
use Rattle.laws_writer.proofs.LinesWritten.{code-bytes}
use Rattle.laws_writer.proofs.Placing.{placed-front, placed-length}
use Rattle.write_line.specs.DraftMeaning.{Sofar, draft_of, begun, with_field, field_added, added_all, with_text, text_added}
use Rattle.write_line.specs.DrawnLine.{Drawn, drawn_of, new_space, code_drawn, bytes_drawn, field_drawn, all_drawn, text_drawn}
use Rattle.write_line.specs.declared.Draft.{Draft}

-- ---- what a draft says

unfoldable pub said : Drawn → Outcome Sofar
said x = or_twenty x.judged >>= λ ks. fine (record { kinds = ks; bytes = take x.len x.space })

pub said-is : (d : Draft) → draft_of d ≡ said (drawn_of d)
unfolding draft_of drawn_of said
said-is d = refl

module _ (len : ℕ) (space : Bytes) (size : length space ≡ 640) where
  -- the draft that is judged so
  abbrev drawn : Judged → Drawn
  drawn j = record { judged = j; len = len; space = space }

  same-room : leb (length (take len space) + 77) 640 ≡ leb (len + 77) 640
  same-room =
      ⊎_elim (λ g. rw (take_all len space (omega arith), lt-leb (len + 77) 640 (omega arith)) (lt-leb (length space + 77) 640 (omega arith)))
      (λ g. rw (length-take-le len space g)) (below-or-from (length space) len)

  -- bytes put after the line
  put-said : (t : Bool) (bs : Bytes) (j x : Judged)
      → said (bytes_drawn (leb (len + 77) 640 && t) bs j (drawn x))
      ≡ (check (leb (length (take len space) + 77) 640) 20 0 >>= λ _. check t 20 0 >>= λ _. or_twenty j >>= λ ks. fine (record { kinds = ks; bytes = take len space ++ bs }))
  unfolding said
  put-said t bs j x = by_cases (known (leb (len + 77) 640)) (known t)
    where
      by_cases : Known (leb (len + 77) 640) → Known t → said (bytes_drawn (leb (len + 77) 640 && t) bs j (drawn x))
          ≡ (check (leb (length (take len space) + 77) 640) 20 0 >>= λ _. check t 20 0 >>= λ _. or_twenty j >>= λ ks. fine (record { kinds = ks; bytes = take len space ++ bs }))
      by_cases (fails e) k = rw (same-room, e)
      by_cases (holds e) (fails g) = rw (same-room, e, g)
      by_cases (holds e) (holds g) = let l = leb-true (len + 77) 640 e in rw (same-room, e, g, placed-front len bs space (omega arith))

  put-size : (t : Bool) (bs : Bytes) (j x : Judged) → (t ≡ true → length bs ≤ 77) → length (bytes_drawn (leb (len + 77) 640 && t) bs j (drawn x)).space ≡ 640
  put-size t bs j x short = by_cases (known (leb (len + 77) 640)) (known t)
    where
      by_cases : Known (leb (len + 77) 640) → Known t → length (bytes_drawn (leb (len + 77) 640 && t) bs j (drawn x)).space ≡ 640
      by_cases (fails e) k = rw e size
      by_cases (holds e) (fails g) = rw (e, g) size
      by_cases (holds e) (holds g) = let l = leb-true (len + 77) 640 e in rw (e, g, placed-length len bs space (omega (arith, short g))) size

  module _ (f : Bytes) (mark : ℕ) where
    field-drawn : (j : Judged) → said (field_drawn f mark (drawn j)) ≡ field_added f mark (said (drawn j))
    unfolding said field_drawn field_added with_field
    field-drawn (bad n) = refl
    field-drawn (good ks) = put-said (clean f && leb (length f) 76) (f ++ (mark ∷ [])) (take_next ks f) (good ks)

    field-short : (clean f && leb (length f) 76) ≡ true → length (f ++ (mark ∷ [])) ≤ 77
    field-short h = rw (length-append f (mark ∷ [])) (omega (arith, leb-true (length f) 76 (and_right (clean f) _ h)))

    field-space : (j : Judged) → length (field_drawn f mark (drawn j)).space ≡ 640
    unfolding field_drawn
    field-space (bad n) = size
    field-space (good ks) = put-size (clean f && leb (length f) 76) (f ++ (mark ∷ [])) (take_next ks f) (good ks) field-short

  text-drawn : (t : Bytes) (j : Judged) → said (text_drawn t (drawn j)) ≡ text_added t (said (drawn j))
  unfolding said text_drawn text_added with_text
  text-drawn t (bad n) = refl
  text-drawn t (good ks) = put-said (good_text t) (cond (is_empty t) (slash ∷ []) t) (good ks) (good ks)

-- ---- each step says what the rules' part says

module _ (x : Drawn) (size : length x.space ≡ 640) where
  pub field-said : (f : Bytes) (mark : ℕ) → said (field_drawn f mark x) ≡ field_added f mark (said x)
  field-said f mark = field-drawn x.len x.space size f mark x.judged

  pub text-said : (t : Bytes) → said (text_drawn t x) ≡ text_added t (said x)
  text-said t = text-drawn x.len x.space size t x.judged

  pub field-size : (f : Bytes) (mark : ℕ) → length (field_drawn f mark x).space ≡ 640
  field-size f mark = field-space x.len x.space size f mark x.judged

module _ (last : ℕ) where
  pub all_said : (fs : List Bytes) (x : Drawn) → length x.space ≡ 640 → said (all_drawn fs last x) ≡ added_all fs last (said x)
  all_said [] x size = refl
  all_said (f ∷ []) x size = field-said x size f last
  all_said (f ∷ g ∷ fs) x size = all_said (g ∷ fs) (field_drawn f comma x) (field-size x size f comma) ∙ rw (field-said x size f comma)

  pub all-size : (fs : List Bytes) (x : Drawn) → length x.space ≡ 640 → length (all_drawn fs last x).space ≡ 640
  all-size [] x size = size
  all-size (f ∷ []) x size = field-size x size f last
  all-size (f ∷ g ∷ fs) x size = all-size (g ∷ fs) (field_drawn f comma x) (field-size x size f comma)

module _ (c : Code) (ks : List Kind) where
  space-size : length new_space ≡ 640
  space-size = length-replicate {A = ℕ} 640 0

  pub begun-said : said (code_drawn c ks) ≡ begun c ks
  unfolding said
  begun-said =
      let n = (code-bytes c).size in
      let size = space-size in
      let z : 3 ≡ 0 + length (code_bytes c) = omega arith in
      rw (z, placed-front 0 (code_bytes c) new_space (omega arith))

  pub begun-size : length (code_drawn c ks).space ≡ 640
  begun-size =
      let n = (code-bytes c).size in
      let size = space-size in
      placed-length 0 (code_bytes c) new_space (omega arith) ∙ size
