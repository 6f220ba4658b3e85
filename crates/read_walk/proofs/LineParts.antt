-- Parts of a record, from a to e, in two forms; the first line from a place on; and a line with no byte after its code. Assumes nothing.
use Prim.Native.Nat.{ℕ, zero, suc, ◌+◌, ◌-◌, ◌≤◌, ◌<◌}
use mathlib.Core.Path.{◌≡◌, refl, sym, ap, ◌∙◌}
use mathlib.Core.Bool.{true}
use mathlib.Core.List.{List, [], ◌∷◌}
use native.Mathlib.Omega.{arith}
use lib.ListN.{length, take, drop, get_or}
use lib.Seq.{slice, take-take, drop-drop, get_or-drop, get_or-take}
use Rattle.rules.specs.Bytes.{Bytes}
use Rattle.rules.specs.Lines.{size_of}
use Rattle.rules.specs.Grammar.{Kind, bad, and_then, take_next, next_kind, is_text}
use Rattle.read_lines.specs.LineLengths.{body_len, line_len, first_line}
use Rattle.read_lines.proofs.OneRecord.{first-size}
use Rattle.read_kept.proofs.EachKind.{told}
use Rattle.read_lines.proofs.LineLaws.{take-drop}

-- as the code lends it
pub part_slice : (a e : ℕ) (s : Bytes) → a ≤ e → take (e - a) (drop a s) ≡ slice a e s
part_slice a e s h = let q : a + (e - a) ≡ e = omega arith in take-drop a (e - a) s ∙ ap (λ (n : ℕ). slice a n s) q

module _ (s : Bytes) (a e k : ℕ) (h : a + k ≤ e) where
  pub part-front : take k (slice a e s) ≡ slice a (a + k) s
  part-front = take-drop a k (take e s) ∙ ap (λ (l : Bytes). drop a l) (take-take (a + k) e s h)

  pub part-back : drop (suc k) (slice a e s) ≡ slice (a + k + 1) e s
  part-back = let q : a + suc k ≡ a + k + 1 = omega arith in drop-drop (suc k) a (take e s) ∙ ap (λ (n : ℕ). slice n e s) q

pub part-get : (s : Bytes) (a e k : ℕ) → a + k < e → get_or (slice a e s) k 0 ≡ get_or s (a + k) 0
part-get s a e k h = get_or-drop a (take e s) k 0 ∙ get_or-take e s (a + k) 0 h

-- what stands in front stands there by its own length
pub front_length : (n : ℕ) (s : Bytes) → take n s ≡ take (length (take n s)) s
front_length zero s = refl
front_length (suc n) [] = refl
front_length (suc n) (x ∷ xs) = ap (λ (l : Bytes). x ∷ l) (front_length n xs)

-- ---- a line that starts at `at` and ends at e, before the one at n

module _ (s : Bytes) (at e n : ℕ) (he : e ≡ at + body_len (drop at s)) (hn : n ≡ at + line_len (drop at s)) where
  pub line-size : at + size_of (first_line (drop at s)) ≡ n
  line-size = ap (λ (m : ℕ). at + m) (first-size (drop at s)) ∙ sym hn

  -- its bytes after the code and the comma
  pub line-fields : drop 3 (first_line (drop at s)).body ≡ slice (at + 3) e s
  line-fields =
      let i : (first_line (drop at s)).body ≡ slice at e s = take-drop at (body_len (drop at s)) s ∙ ap (λ (m : ℕ). slice at m s) (sym he) in
      ap (λ (xs : Bytes). drop 3 xs) i ∙ drop-drop 3 at (take e s)

-- ---- a line with no byte after its code

pub text-empty : (ks : List Kind) → is_text (next_kind ks) ≡ true → take_next ks [] ≡ bad 7
unfolding take_next and_then
text-empty [] h = cc
text-empty (k ∷ ks) h = rw ((told k).6 h)
