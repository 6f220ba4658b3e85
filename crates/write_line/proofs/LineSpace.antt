-- What a space holds: bytes put in it, and a line in the making with a field or a text more. Assumes nothing.
use mathlib.Core.Path.{◌≡◌, refl, sym, ap, ◌∙◌}
use mathlib.Core.Bool.{true, false, cond, ◌&&◌, false≢true}
use mathlib.Core.List.{[], ◌∷◌, ◌++◌}
use mathlib.Core.Logic.{⊎_elim}
use Prim.Native.Nat.{ℕ, ◌+◌, ◌-◌, ◌≤◌, ◌<◌}
use native.Mathlib.Numerals.{add-one}
use native.Mathlib.Omega.{arith}
use lib.Dec.{leb, eqb}
use lib.ListN.{length, take, drop, set, length-append, length-drop, length-replicate, take-append-drop}
use lib.Seq.{take_all, set_split, take-append_seam, drop-drop}
use borrow.Author.Tests.{le-leb, lt-leb, leb-true, leb-false, ne_eqb}
use borrow.Rule.Slice.PartMut.{mid_of, put_mid}
use Rattle.rules.specs.Bytes.{Bytes, slash, is_empty, clean}
use Rattle.rules.specs.Lines.{Code, code_bytes}
use Rattle.rules.specs.Grammar.{take_next}
use Rattle.rules.specs.Writer.{placed, good_text}
use Rattle.rules.specs.Numbers.{Sum, decimal, total_bytes}
use Rattle.rules.proofs.Tests.{Known, holds, fails, known}
use Rattle.base_numerals.specs.PutBytes.{Put}
use Rattle.base_digits.proofs.DigitTests.{below-or-from, and_left}
use Rattle.base_digits.proofs.DigitStrings.{decimal-at-most}
use Rattle.base_digits.proofs.TotalStrings.{total-below-zero, total-from-zero}
use Rattle.base_numerals.proofs.PutLaws.{put_count, put-bytes, rest-is, rest_back}
use Rattle.laws_writer.proofs.NumberFields.{not-empty}
use Rattle.laws_writer.proofs.LinesWritten.{code-bytes}
use Rattle.laws_writer.proofs.Placing.{placed-more}
use Rattle.read_wanted.specs.Wants.{wanted_of}
use Rattle.read_wanted.specs.TakenMeaning.{judged_of}
use Rattle.std.specs.Prelude.{Result, Ok, Err, is_err}
use Rattle.base_refusals.specs.declared.Reason.{Reason}
use Rattle.read_wanted.specs.declared.want.Want.{Want}
use Rattle.write_line.specs.DrawnLine.{Drawn, drawn_of, new_space, room_after, refused_in, code_drawn, bytes_drawn, field_drawn, text_drawn}
use Rattle.write_line.specs.declared.Draft.{Draft}

-- ---- bytes put at a place

module _ (d : Bytes) (at : ℕ) (s : Bytes) where
  pub put-short : length d < at + length s → d ≡ cond (leb (at + length s) (length d)) (placed at s d) d
  put-short h = rw (lt-leb (at + length s) (length d) h)

  -- in the rest of the slice, lent
  pub put_rest : (r : ℕ) (rest : Bytes) → at ≤ length d → Put s (mid_of at (length d - at) d) r rest
      → put_mid at (length d - at) d rest ≡ cond (leb (at + length s) (length d)) (placed at s d) d
  put_rest r rest h p = rest_back at d rest h ∙ by-room (known (leb (at + length s) (length d)))
    where
      bytes : rest ≡ cond (leb (length s) (length d - at)) (s ++ drop (length s) (drop at d)) (drop at d)
      bytes = rw (rest-is at d, length-drop at d) at p.bytes

      by-room : Known (leb (at + length s) (length d)) → take at d ++ rest ≡ cond (leb (at + length s) (length d)) (placed at s d) d
      by-room (holds e) = let l = leb-true (at + length s) (length d) e in rw (e, bytes, le-leb (length s) (length d - at) (omega arith), drop-drop (length s) at d)
      by-room (fails e) = let l = leb-false (at + length s) (length d) e in rw (e, bytes, lt-leb (length s) (length d - at) (omega arith)) (take-append-drop at d)

-- ---- a line in the making

empty-is : (t : Bytes) → is_empty t ≡ eqb (length t) 0
unfolding is_empty
empty-is [] = refl
empty-is (b ∷ bs) = sym (ne_eqb (length (b ∷ bs)) 0 (omega arith))

text-short : (t : Bytes) → good_text t ≡ true → length t ≤ 76
unfolding good_text
text-short t h = leb-true (length t) 76 (and_left (leb (length t) 76) _ h)

-- a refused draft stays
module _ (d : Draft) where
  pub refused-stays : (why : Reason) → d.taken ≡ Err why → (f : Bytes) (mark : ℕ) → drawn_of d ≡ field_drawn f mark (drawn_of d)
  unfolding drawn_of judged_of field_drawn
  refused-stays why e f mark = rw e

  pub refused-text : is_err d.taken ≡ true → (t : Bytes) → drawn_of d ≡ text_drawn t (drawn_of d)
  unfolding drawn_of judged_of text_drawn
  refused-text bad t = by-taken d.taken refl bad
    where
      by-taken : (r : Result Want Reason) → d.taken ≡ r → is_err r ≡ true → drawn_of d ≡ text_drawn t (drawn_of d)
      by-taken (Ok want) e h = absurd (false≢true h)
      by-taken (Err why) e h = rw e

-- a field is refused, or it is put with its mark and judged
module _ (d : Draft) (want : Want) (is : d.taken ≡ Ok want) where
  pub field-refused : (f : Bytes) (mark : ℕ) {now : Drawn} → now ≡ refused_in d.line → (room_after d.len && (clean f && leb (length f) 76)) ≡ false → now ≡ field_drawn f mark (drawn_of d)
  unfolding drawn_of judged_of field_drawn
  field-refused f mark e bad = rw (is, bad) e

  module _ (size : length d.line ≡ 640) (room : room_after d.len ≡ true) where
    pub field-put : (f : Bytes) (mark : ℕ) (t : Result Want Reason) {put : Bytes} → length f ≤ 76 → clean f ≡ true → judged_of t ≡ take_next (wanted_of want) f
        → put ≡ cond (leb (d.len + length f) (length d.line)) (placed d.len f d.line) d.line
        → drawn_of (record { line = set put (d.len + length f) mark; len = d.len + (length f + 1); taken = t }) ≡ field_drawn f mark (drawn_of d)
    unfolding drawn_of judged_of field_drawn
    field-put f mark t {put} s c j p =
        let l = leb-true (d.len + 77) 640 room in
        let one = length-append f (mark ∷ []) in
        let p' : put ≡ placed d.len f d.line = rw (le-leb (d.len + length f) (length d.line) (omega arith)) at p in
        let e : set put (d.len + length f) mark ≡ placed d.len (f ++ (mark ∷ [])) d.line = ap (λ (bs : Bytes). set bs (d.len + length f) mark) p' ∙ placed-more d.len f d.line mark (omega arith) in
        rw (is, room, c, le-leb (length f) 76 s, j, e, one)

-- a text likewise; an empty one is put as a slash
module _ (d : Draft) where
  text-said : (t : Bytes) → is_err d.taken ≡ false
      → text_drawn t (drawn_of d) ≡ bytes_drawn (room_after d.len && good_text t) (cond (is_empty t) (slash ∷ []) t) (judged_of d.taken) (drawn_of d)
  unfolding drawn_of judged_of text_drawn
  text-said t ok = by-taken d.taken refl ok
    where
      by-taken : (r : Result Want Reason) → d.taken ≡ r → is_err r ≡ false
          → text_drawn t (drawn_of d) ≡ bytes_drawn (room_after d.len && good_text t) (cond (is_empty t) (slash ∷ []) t) (judged_of d.taken) (drawn_of d)
      by-taken (Ok want) e h = rw e
      by-taken (Err why) e h = absurd (false≢true (sym h))

  module _ (ok : is_err d.taken ≡ false) where
    pub text-refused : (t : Bytes) {now : Drawn} → now ≡ refused_in d.line → (room_after d.len && good_text t) ≡ false → now ≡ text_drawn t (drawn_of d)
    unfolding drawn_of
    text-refused t e bad = rw (text-said t ok, bad) e

    pub text-put : (t bytes : Bytes) {put : Bytes} → length d.line ≡ 640 → room_after d.len ≡ true → good_text t ≡ true → bytes ≡ cond (eqb (length t) 0) (slash ∷ []) t
        → put ≡ cond (leb (d.len + length bytes) (length d.line)) (placed d.len bytes d.line) d.line
        → drawn_of (record { line = put; len = d.len + length bytes; taken = d.taken }) ≡ text_drawn t (drawn_of d)
    unfolding drawn_of
    text-put t bytes {put} size room g b p =
        let l = leb-true (d.len + 77) 640 room in
        let s = text-short t g in
        let short : length bytes ≤ 77 = rw b (by-empty (known (eqb (length t) 0)) s) in
        let p' : put ≡ placed d.len bytes d.line = rw (le-leb (d.len + length bytes) (length d.line) (omega arith)) at p in
        rw (text-said t ok, room, g, empty-is t, p', b)
      where
        by-empty : Known (eqb (length t) 0) → length t ≤ 76 → length (cond (eqb (length t) 0) (slash ∷ []) t) ≤ 77
        by-empty (holds e) h = rw e (omega arith)
        by-empty (fails e) h = rw e (omega arith)

-- a code in front
pub begin-put : (c : Code) (want : Want) (bytes : Bytes) {put : Bytes} → bytes ≡ code_bytes c → put ≡ cond (leb (0 + length bytes) (length new_space)) (placed 0 bytes new_space) new_space
    → drawn_of (record { line = put; len = 3; taken = Ok want }) ≡ code_drawn c (wanted_of want)
unfolding drawn_of judged_of
begin-put c want bytes b p =
    let n = (code-bytes c).size in
    let size : length new_space ≡ 640 = length-replicate {A = ℕ} 640 0 in
    rw (p, b, le-leb (0 + length (code_bytes c)) (length new_space) (omega arith))

-- ---- numbers put in a space of their own

module _ {bs before : Bytes} {r : ℕ} {after : Bytes} (p : Put bs before r after) where
  pub number-bytes : length bs ≤ length before → take r after ≡ bs
  number-bytes h = rw (put-bytes p h, put_count p h) (take-append_seam bs (drop (length bs) before))

pub decimal-short : (n : ℕ) → n < 18_446_744_073_709_551_616 → length (decimal n) ≤ 20
decimal-short n h = decimal-at-most 20 n (omega arith) (omega arith)

pub total-short : (a : Sum) → a.pluses < 18_446_744_073_709_551_616 → a.minuses < 18_446_744_073_709_551_616 → length (total_bytes a) ≤ 21
total-short a h g =
    ⊎_elim (λ l. rw (total-below-zero a l) (omega (arith, decimal-short (a.minuses - a.pluses) (omega arith))))
    (λ l. rw (total-from-zero a l) (omega (arith, decimal-short (a.pluses - a.minuses) (omega arith)))) (below-or-from a.pluses a.minuses)
