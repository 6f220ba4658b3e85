-- Bytes placed in a slice: what stands in front, how long it is, and one byte more. Assumes nothing.
use mathlib.Core.Path.{◌≡◌, sym, ap, ◌∙◌}
use mathlib.Core.List.{[], ◌∷◌, ◌++◌, append_assoc}
use Prim.Native.Nat.{ℕ, suc, ◌+◌, ◌≤◌, ◌<◌}
use native.Mathlib.Omega.{arith}
use lib.ListN.{length, take, drop, get_or, set, length-append, length-drop}
use lib.Seq.{length-take-le, take_at, drop-cons, set_at}
use Rattle.rules.specs.Bytes.{Bytes}
use Rattle.rules.specs.Writer.{placed}

module _ (at : ℕ) (line before : Bytes) where
  -- all up to their end
  pub placed-front : at ≤ length before → take (at + length line) (placed at line before) ≡ take at before ++ line
  placed-front h =
      let n = length-take-le at before h in
      rw (← append_assoc (take at before) line (drop (at + length line) before))
      (take_at (take at before ++ line) (drop (at + length line) before) (at + length line) (rw (length-append (take at before) line, n)))

  pub placed-length : at + length line ≤ length before → length (placed at line before) ≡ length before
  placed-length h =
      let n = length-take-le at before (omega arith) in
      rw (length-append (take at before) (line ++ drop (at + length line) before), length-append line (drop (at + length line) before), n, length-drop (at + length line) before) (omega arith)

  -- a byte stored after them
  pub placed-more : (b : ℕ) → at + length line < length before → set (placed at line before) (at + length line) b ≡ placed at (line ++ (b ∷ [])) before
  placed-more b h =
      let n = length-take-le at before (omega arith) in
      let p = take at before ++ line in
      let e : at + length (line ++ (b ∷ [])) ≡ suc (at + length line) = rw (length-append line (b ∷ [])) (omega arith) in
      ap (λ (bs : Bytes). set bs (at + length line) b) (sym (append_assoc (take at before) line (drop (at + length line) before)))
      ∙ ap (λ (bs : Bytes). set (p ++ bs) (at + length line) b) (drop-cons before (at + length line) 0 h)
      ∙ set_at p (get_or before (at + length line) 0) (drop (suc (at + length line)) before) b (at + length line) (rw (length-append (take at before) line, n))
      ∙ rw e (simp append_assoc)
