-- The first line of bytes, and what follows it. Assumes nothing.
use Prim.Native.Nat.{ℕ, suc, ◌+◌, ◌-◌, ◌≤◌, ◌<◌}
use mathlib.Core.Path.{◌≡◌, refl, ap, sym, ◌∙◌}
use mathlib.Core.List.{[], ◌∷◌}
use mathlib.Core.Bool.{Bool, true, false}
use native.Mathlib.Omega.{arith}
use native.Mathlib.Nat.{suc-add}
use lib.ListN.{length, take, drop, length-take, length-drop}
use lib.Seq.{take-nil, take_all}
use lib.Dec.{eqb}
use Rattle.rules.specs.Bytes.{Bytes, LF, CR}
use Rattle.rules.specs.Lines.{lacking, end_bytes, Line, longer_line, longer_first, lines_of}
use Rattle.read_lines.specs.LineLengths.{begins_lf, end_by, end_of, run, suc_unless, is_end, body_len, end_len, line_len, first_line}

-- LAWS OF RUNS
module _ (p : ℕ → Bytes → Bool) where
  pub run-le : (xs : Bytes) → run p xs ≤ length xs
  unfolding run
  run-le [] = omega arith
  run-le (b ∷ bs) = go (p b bs) (run-le bs)
    where
      go : (t : Bool) → run p bs ≤ length bs → suc_unless t (run p bs) ≤ suc (length bs)
      go true h = omega arith
      go false h = omega arith

-- THE FIRST LINE, also of a part that holds it whole: line_len xs + k bytes
abbrev Cut : Bytes → ℕ → Type 0
Cut xs k = lines_of (take (line_len xs + k) xs) ≡ first_line xs ∷ lines_of (take k (drop (line_len xs) xs))

one_more : (k : ℕ) → 1 + k ≡ suc k
one_more k = omega arith

two-more : (k : ℕ) → 2 + k ≡ suc (suc k)
two-more k = omega arith

cut-lf : (b : ℕ) (bs : Bytes) (k : ℕ) → eqb b LF ≡ true → Cut (b ∷ bs) k
unfolding lines_of run
cut-lf b bs k e = simp e (rw (one_more k, e))

cut-crlf : (b c : ℕ) (cs : Bytes) (k : ℕ) → eqb b LF ≡ false → eqb b CR ≡ true → eqb c LF ≡ true → Cut (b ∷ c ∷ cs) k
unfolding lines_of run longer_first longer_line
cut-crlf b c cs k e f g = simp (e, f, g) (rw (two-more k, e, g, f))

-- the last byte of all
cut-last : (b : ℕ) (k : ℕ) → end_of (b ∷ []) ≡ lacking → eqb b LF ≡ false → Cut (b ∷ []) k
unfolding lines_of run longer_first
cut-last b k e f = simp e (rw (one_more k, f, take-nil k))

-- a byte of the line before its other bytes
abbrev longer : ℕ → Line → Line
longer b l = record { body = b ∷ l.body; line_end = l.line_end }

plain-longer : (b c : ℕ) (cs : Bytes) (x y z u v : Bool) → eqb b CR ≡ y → end_by x y z ≡ lacking → eqb c LF ≡ z → eqb c CR ≡ u → begins_lf cs ≡ v
    → longer_line b (first_line (c ∷ cs)).body (first_line (c ∷ cs)).line_end ≡ longer b (first_line (c ∷ cs))
unfolding run longer_line
plain-longer b c cs true y z u v f e g h i = cc
plain-longer b c cs false true true u v f e g h i = cc
plain-longer b c cs false false true u v f e g h i = simp g (rw f)
plain-longer b c cs false y false true true f e g h i = simp (g, h, i)
plain-longer b c cs false y false true false f e g h i = simp (g, h, i)
plain-longer b c cs false y false false v f e g h i = simp (g, h, i)

pub body_more : (b : ℕ) (bs : Bytes) → is_end b bs ≡ false → body_len (b ∷ bs) ≡ suc (body_len bs)
unfolding run
body_more b bs e = rw e

cut-plain : (b c : ℕ) (cs : Bytes) (k : ℕ) → end_of (b ∷ c ∷ cs) ≡ lacking → eqb b LF ≡ false → Cut (c ∷ cs) k → Cut (b ∷ c ∷ cs) k
unfolding lines_of longer_first
cut-plain b c cs k e f ih =
    let n = body_more b (c ∷ cs) (rw e) in
    let l = plain-longer b c cs (eqb b LF) (eqb b CR) (eqb c LF) (eqb c CR) (begins_lf cs) refl e refl refl refl in
    rw (n, suc-add, suc-add, f, ih, l)

not-lf : (x y z : Bool) → end_by x y z ≡ lacking → x ≡ false
not-lf true y z e = cc
not-lf false y z e = refl

cut-first : (b : ℕ) (bs : Bytes) (k : ℕ) → Cut (b ∷ bs) k
cut-first b [] k = go (eqb b LF) (eqb b CR) refl refl
  where
    go : (x y : Bool) → eqb b LF ≡ x → eqb b CR ≡ y → Cut (b ∷ []) k
    go true y e f = cut-lf b [] k e
    go false true e f = cut-last b k (rw (e, f)) e
    go false false e f = cut-last b k (rw (e, f)) e
cut-first b (c ∷ cs) k = go (eqb b LF) (eqb b CR) (eqb c LF) refl refl refl (cut-first c cs k)
  where
    go : (x y z : Bool) → eqb b LF ≡ x → eqb b CR ≡ y → eqb c LF ≡ z → Cut (c ∷ cs) k → Cut (b ∷ c ∷ cs) k
    go true y z e f g ih = cut-lf b (c ∷ cs) k e
    go false true true e f g ih = cut-crlf b c cs k e f g
    go false true false e f g ih = cut-plain b c cs k (rw (e, f, g)) e ih
    go false false z e f g ih = cut-plain b c cs k (rw (e, f)) e ih

-- the first line of a part that holds it whole, and of the bytes themselves
pub first-of-part : (xs : Bytes) (k : ℕ) → 0 < length xs → lines_of (take (line_len xs + k) xs) ≡ first_line xs ∷ lines_of (take k (drop (line_len xs) xs))
first-of-part [] k h = absurd (omega arith)
first-of-part (b ∷ bs) k h = cut-first b bs k

pub first_of : (xs : Bytes) → 0 < length xs → lines_of xs ≡ first_line xs ∷ lines_of (drop (line_len xs) xs)
first_of xs h =
    let a = take_all (line_len xs + length xs) xs (omega arith) in
    let d = length-drop (line_len xs) xs in
    let b = take_all (length xs) (drop (line_len xs) xs) (omega arith) in
    ap lines_of (sym a) ∙ first-of-part xs (length xs) h ∙ ap (λ (l : Bytes). first_line xs ∷ lines_of l) b

-- a line's end is within the bytes
pub end_fits : (xs : Bytes) → end_len xs ≤ length xs
end_fits [] = omega arith
end_fits (b ∷ []) = go (eqb b LF) (eqb b CR)
  where
    go : (x y : Bool) → length (end_bytes (end_by x y false)) ≤ 1
    go true y = omega arith
    go false true = omega arith
    go false false = omega arith
end_fits (b ∷ c ∷ cs) = go (eqb b LF) (eqb b CR) (eqb c LF)
  where
    go : (x y z : Bool) → length (end_bytes (end_by x y z)) ≤ suc (suc (length cs))
    go true y z = omega arith
    go false true true = omega arith
    go false true false = omega arith
    go false false z = omega arith

pub line-fits : (xs : Bytes) → line_len xs ≤ length xs
line-fits xs = let a = run-le is_end xs in let b = end_fits (drop (body_len xs) xs) in let c = length-drop (body_len xs) xs in omega arith

-- the first line is as long as its lengths say
pub first_body : (xs : Bytes) → length (first_line xs).body ≡ body_len xs
first_body xs = let a = run-le is_end xs in length-take (body_len xs) xs ∙ omega arith

-- a line with its end has a byte
pub line-some : (xs : Bytes) → 0 < length xs → 0 < line_len xs
unfolding run
line-some [] h = h
line-some (b ∷ bs) h = go (eqb b LF) (eqb b CR) (begins_lf bs) refl refl refl
  where
    go : (x y z : Bool) → eqb b LF ≡ x → eqb b CR ≡ y → begins_lf bs ≡ z → 0 < line_len (b ∷ bs)
    go true y z e f g = simp e (omega arith)
    go false true true e f g = simp (e, f, g) (omega arith)
    go false true false e f g = simp (e, f, g) (omega arith)
    go false false z e f g = simp (e, f) (omega arith)

-- a part that holds the first line whole begins with it
pub body-of-part : (xs : Bytes) (m : ℕ) → 0 < length xs → line_len xs ≤ m → body_len (take m xs) ≡ body_len xs
body-of-part xs m h g =
    let k : line_len xs + (m - line_len xs) ≡ m = omega arith in
    let some : 0 < length (take m xs) = omega (arith, length-take m xs, line-some xs h) in
    let both : first_line (take m xs) ∷ lines_of (drop (line_len (take m xs)) (take m xs)) ≡ first_line xs ∷ lines_of (take (m - line_len xs) (drop (line_len xs) xs)) =
    sym (first_of (take m xs) some) ∙ ap (λ (n : ℕ). lines_of (take n xs)) (sym k) ∙ first-of-part xs (m - line_len xs) h in
    let same : first_line (take m xs) ≡ first_line xs = cc in
    sym (first_body (take m xs)) ∙ ap (λ (l : Line). length l.body) same ∙ first_body xs
