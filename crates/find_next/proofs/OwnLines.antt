-- The lines of a record of which so many bytes are known to be its own: by its first line, at its end; and the two uses, one byte known and all. Assumes nothing.
use Prim.Native.Nat.{ℕ, zero, suc, ◌+◌, ◌-◌, ◌≤◌, ◌<◌}
use native.Mathlib.Omega.{arith}
use mathlib.Core.Path.{◌≡◌, refl, sym, ap, ◌∙◌}
use mathlib.Core.Bool.{Bool, true, false, not, cond, ◌&&◌, ◌||◌}
use mathlib.Core.List.{List, [], ◌∷◌}
use borrow.Author.Tests.{lt-ltb, le-ltb, ltb-true, ltb-false}
use lib.Dec.{ltb}
use lib.ListN.{length, take, drop, length-drop, drop_of_length-le}
use Rattle.rules.specs.Bytes.{Bytes, same_bytes}
use Rattle.rules.specs.Lines.{Line, size_of, lines_of, code_bytes, continuation}
use Rattle.rules.proofs.Tests.{Known, holds, fails, known}
use Rattle.read_lines.specs.LineLengths.{line_len, first_line, further, first_record}
use Rattle.read_lines.proofs.LineLengthLaws.{first_of, line-some}
use Rattle.read_lines.proofs.Fronts.{begins-front}
use Rattle.read_lines.proofs.LineLaws.{lines-here}
use Rattle.read_lines.proofs.OneRecord.{first-size}
use Rattle.find_next.specs.CursorMeaning.{own_lines, own_line}

-- a test turned round
pub flip : (a b : Bool) → not a ≡ b → a ≡ not b
flip true b e = ap not e
flip false b e = ap not e

and-true : (a b : Bool) → (a && b) ≡ true → (a ≡ true) × (b ≡ true)
and-true true b e = (refl, e)
and-true false b e = let z : ◌≡◌ {A = ℕ} 0 1 = cc in absurd (omega arith)

module _ (rec : Bytes) (least at : ℕ) where
  abbrev left : Bytes
  left = drop at rec

  -- the first line is its own or not
  own-step : (n : ℕ) (t : Bool) → at < length rec → n ≡ at + line_len left → (ltb at least || same_bytes (code_bytes continuation) (take 3 left)) ≡ t
      → own_lines least at (lines_of left) ≡ cond t (first_line left ∷ own_lines least n (lines_of (drop n rec))) []
  unfolding own_lines
  own-step n t h hn e = rw (lines-here rec at n h hn, begins-front continuation left, first-size left, ← hn, e)

  -- a line is left
  pub own-some : own_line least at left ≡ true → at < length rec
  own-some e = omega (arith, ltb-true 0 (length left) (and-true (ltb 0 (length left)) _ e).0, length-drop at rec)

  pub own-here : (n : ℕ) → n ≡ at + line_len left → own_line least at left ≡ true → own_lines least at (lines_of left) ≡ first_line left ∷ own_lines least n (lines_of (drop n rec))
  own-here n hn e = own-step n true (own-some e) hn (and-true (ltb 0 (length left)) _ e).1

  -- none is
  pub own-over : own_line least at left ≡ false → own_lines least at (lines_of left) ≡ []
  unfolding own_lines lines_of
  own-over e = by_size (known (ltb at (length rec)))
    where
      by_size : Known (ltb at (length rec)) → own_lines least at (lines_of left) ≡ []
      by_size (holds t) =
          let h = ltb-true at (length rec) t in
          own-step (at + line_len left) false h refl (sym (rw (lt-ltb 0 (length left) (omega (arith, length-drop at rec)))) ∙ e)
      by_size (fails t) = rw (drop_of_length-le rec {i = at} (ltb-false at (length rec) t))

-- ---- one byte is known

after_first : (p : ℕ) (ls : List Line) → 1 ≤ p → own_lines 1 p ls ≡ further ls
unfolding own_lines further
after_first p [] h = refl
after_first p (l ∷ ls) h = rw (le-ltb p 1 h, after_first (p + size_of l) ls (omega arith))

pub first-own : (xs : Bytes) → 0 < length xs → own_lines 1 0 (lines_of xs) ≡ first_record (lines_of xs)
unfolding own_lines first_record
first-own xs h = rw (first_of xs h) (ap (λ (ls : List Line). first_line xs ∷ ls) (after_first _ _ (omega (arith, first-size xs, line-some xs h))))

-- ---- all are known

past_all : (rec : Bytes) (at : ℕ) → length rec ≤ at → own_lines (length rec) at (lines_of (drop at rec)) ≡ lines_of (drop at rec)
unfolding own_lines lines_of
past_all rec at h = rw (drop_of_length-le rec {i = at} h)

-- at `at`, where the lines after the first are its own
all-step : (rec : Bytes) (at : ℕ) → (at < length rec → own_lines (length rec) (at + line_len (drop at rec)) (lines_of (drop (at + line_len (drop at rec)) rec)) ≡ lines_of (drop (at + line_len (drop at rec)) rec))
    → Known (ltb at (length rec)) → own_lines (length rec) at (lines_of (drop at rec)) ≡ lines_of (drop at rec)
all-step rec at ih (holds t) =
    let h = ltb-true at (length rec) t in
    own-step rec (length rec) at (at + line_len (drop at rec)) true h refl (rw t)
    ∙ ap (λ (ls : List Line). first_line (drop at rec) ∷ ls) (ih h)
    ∙ sym (lines-here rec at (at + line_len (drop at rec)) h refl)
all-step rec at ih (fails t) = past_all rec at (ltb-false at (length rec) t)

all_from : (most : ℕ) (rec : Bytes) (at : ℕ) → length rec - at ≤ most → own_lines (length rec) at (lines_of (drop at rec)) ≡ lines_of (drop at rec)
all_from zero rec at h = past_all rec at (omega arith)
all_from (suc most) rec at h =
    all-step rec at
    (λ low. all_from most rec (at + line_len (drop at rec)) (omega (arith, line-some (drop at rec) (omega (arith, length-drop at rec)))))
    (known (ltb at (length rec)))

pub all_own : (rec : Bytes) → own_lines (length rec) 0 (lines_of rec) ≡ lines_of rec
all_own rec = all_from (length rec) rec 0 (omega arith)
