-- The next line of two codes, byte by byte, block by block, and in lines. Assumes nothing.
use Prim.Native.Nat.{ℕ, zero, suc, ◌+◌, ◌≤◌, ◌<◌}
use native.Mathlib.Nat.{add-zero}
use native.Mathlib.Numerals.{add-one}
use native.Mathlib.Omega.{arith}
use mathlib.Core.Path.{◌≡◌, refl, sym, ap, subst, ◌∙◌}
use mathlib.Core.Bool.{Bool, true, false, cond, ◌&&◌}
use mathlib.Core.List.{List, [], ◌∷◌, append-nil}
use lib.Dec.{eqb}
use lib.ListN.{length, take, drop, get_or, length-append, drop_of_length-le}
use lib.Seq.{drop-cons}
use Rattle.rules.specs.Bytes.{Bytes, LF, same_bytes}
use Rattle.rules.specs.Lines.{Line, size_of, end_bytes, longer_line, longer_first, lines_of, line_bytes, Code, code_bytes}
use Rattle.rules.proofs.Tests.{Known, holds, fails, known}
use Rattle.rules.proofs.LineLaws.{longer-bytes}
use Rattle.read_lines.proofs.LineLengthLaws.{first_of}
use Rattle.read_lines.proofs.Fronts.{begins-front}
use Rattle.base_codes.specs.declared.Digits.{Digits}
use Rattle.base_codes.specs.CodeMeaning.{bytes_meant}
use Rattle.find_lines.specs.LinesOfCode.{begins_either, line_ends, ahead_len, Quiet, may_begin, bytes_before}

-- ---- byte by byte

-- of two that both hold, the second
line-begun : (t u : Bool) → (t && u) ≡ true → u ≡ true
line-begun true u e = e
line-begun false u e = let z : false ≡ true = e in cc

module _ (x y s : Bytes) (i : ℕ) where
  pub ahead_none : length s ≤ i → i + ahead_len x y (drop i s) ≡ i
  unfolding ahead_len
  ahead_none h = rw (drop_of_length-le s {i = i} h) (add-zero i)

  module _ (h : i < length s) where
    pub ahead-stop : line_ends x y (get_or s i 0) (drop (suc i) s) ≡ true → i + ahead_len x y (drop i s) ≡ i + 1
    unfolding ahead_len
    ahead-stop e = rw (drop-cons s i 0 h, e)

    pub begins-after : line_ends x y (get_or s i 0) (drop (suc i) s) ≡ true → begins_either x y (drop (i + 1) s) ≡ true
    begins-after e = rw add-one (line-begun (eqb (get_or s i 0) LF) _ e)

    pub ahead_step : line_ends x y (get_or s i 0) (drop (suc i) s) ≡ false → i + ahead_len x y (drop i s) ≡ (i + 1) + ahead_len x y (drop (i + 1) s)
    unfolding ahead_len
    ahead_step e = rw (drop-cons s i 0 h, e, add-one) (omega arith)

-- ---- block by block

pub ahead-quiet : (x y s : Bytes) (n i : ℕ) → i + n ≤ length s → Quiet x y s i n → i + ahead_len x y (drop i s) ≡ (i + n) + ahead_len x y (drop (i + n) s)
ahead-quiet x y s zero i h q = rw add-zero
ahead-quiet x y s (suc n) i h q =
    let here : line_ends x y (get_or s i 0) (drop (suc i) s) ≡ false = subst (λ (k : ℕ). line_ends x y (get_or s k 0) (drop (suc k) s) ≡ false) (add-zero i) (q 0 (omega arith)) in
    let e : (i + 1) + n ≡ i + suc n = omega arith in
    ahead_step x y s i (omega arith) here
    ∙ ahead-quiet x y s n (i + 1) (omega arith)
    (λ k l. let d : i + suc k ≡ (i + 1) + k = omega arith in subst (λ (m : ℕ). line_ends x y (get_or s m 0) (drop (suc m) s) ≡ false) d (q (suc k) (omega arith)))
    ∙ ap (λ (m : ℕ). m + ahead_len x y (drop m s)) e

-- where two bytes end no line, or begin none with this or that digit, no line begins with such a code after the first
no_code : (d : Digits) (s : Bytes) (k : ℕ) → k < length s → eqb d.0 (get_or s k 0) ≡ false → same_bytes (bytes_meant d) (take 3 (drop k s)) ≡ false
unfolding same_bytes
no_code d s k h e = rw (drop-cons s k 0 h, e)

pub quiet-byte : (x y : Digits) (s : Bytes) (k : ℕ) → k + 1 < length s → may_begin x.0 y.0 (get_or s k 0) (get_or s (k + 1) 0) ≡ false
    → line_ends (bytes_meant x) (bytes_meant y) (get_or s k 0) (drop (suc k) s) ≡ false
quiet-byte x y s k h e = go (known (eqb (get_or s k 0) LF)) (known (eqb x.0 (get_or s (k + 1) 0))) (known (eqb y.0 (get_or s (k + 1) 0)))
  where
    next : (d : Digits) → eqb d.0 (get_or s (k + 1) 0) ≡ false → same_bytes (bytes_meant d) (take 3 (drop (suc k) s)) ≡ false
    next d f = subst (λ (n : ℕ). same_bytes (bytes_meant d) (take 3 (drop n s)) ≡ false) (add-one k) (no_code d s (k + 1) h f)

    go : Known (eqb (get_or s k 0) LF) → Known (eqb x.0 (get_or s (k + 1) 0)) → Known (eqb y.0 (get_or s (k + 1) 0)) → line_ends (bytes_meant x) (bytes_meant y) (get_or s k 0) (drop (suc k) s) ≡ false
    go (fails p) q r = rw p
    go (holds p) (holds q) r = let z : true ≡ false = rw (p, q) at e in cc
    go (holds p) (fails q) (holds r) = let z : true ≡ false = rw (p, q, r) at e in cc
    go (holds p) (fails q) (fails r) = rw (p, next x q, next y r)

-- ---- in lines

module _ (c d : Code) where
  abbrev X : Bytes
  X = code_bytes c

  abbrev Y : Bytes
  Y = code_bytes d

  -- the first line is passed over
  unfoldable pass_len : List Line → ℕ
  pass_len [] = 0
  pass_len (l ∷ ls) = size_of l + bytes_before c d ls

  before-first : (xs : Bytes) → bytes_before c d (lines_of xs) ≡ cond (begins_either X Y xs) 0 (pass_len (lines_of xs))
  unfolding bytes_before pass_len lines_of
  before-first [] = go (begins_either X Y [])
    where
      go : (t : Bool) → ◌≡◌ {A = ℕ} 0 (cond t 0 0)
      go true = refl
      go false = refl
  before-first (b ∷ bs) =
      rw (first_of (b ∷ bs) (omega arith), begins-front c (b ∷ bs), begins-front d (b ∷ bs))

  size-bytes : (l : Line) → length (line_bytes (l ∷ [])) ≡ size_of l
  unfolding line_bytes
  size-bytes l = rw (append-nil, length-append l.body (end_bytes l.line_end))

  longer-size : (b : ℕ) (l : Line) → size_of (longer_line b l.body l.line_end) ≡ suc (size_of l)
  longer-size b l =
      sym (size-bytes (longer_line b l.body l.line_end)) ∙ ap length (longer-bytes b l.body l.line_end []) ∙ ap suc (size-bytes l)

  pass-longer : (b : ℕ) (ls : List Line) → pass_len (longer_first b ls) ≡ suc (pass_len ls)
  unfolding pass_len longer_first bytes_before
  pass-longer b [] = refl
  pass-longer b (l ∷ ls) = rw (longer-size b l) (omega arith)

  pass_step : (b : ℕ) (bs : Bytes) → pass_len (lines_of bs) ≡ ahead_len X Y bs → Known (eqb b LF) → pass_len (lines_of (b ∷ bs)) ≡ ahead_len X Y (b ∷ bs)
  unfolding pass_len lines_of ahead_len
  pass_step b bs ih (fails e) = rw e (pass-longer b (lines_of bs) ∙ ap suc ih)
  pass_step b bs ih (holds e) = rw e (rw (before-first bs, ih) (go (begins_either X Y bs)))
    where
      go : (t : Bool) → 1 + cond t 0 (ahead_len X Y bs) ≡ cond t 1 (suc (ahead_len X Y bs))
      go true = refl
      go false = omega arith

  pass-bytes : (xs : Bytes) → pass_len (lines_of xs) ≡ ahead_len X Y xs
  unfolding pass_len lines_of ahead_len
  pass-bytes [] = refl
  pass-bytes (b ∷ bs) = pass_step b bs (pass-bytes bs) (known (eqb b LF))

  pub before_here : (xs : Bytes) → begins_either X Y xs ≡ true → bytes_before c d (lines_of xs) ≡ 0
  before_here xs e = before-first xs ∙ rw e

  pub before-ahead : (xs : Bytes) → begins_either X Y xs ≡ false → bytes_before c d (lines_of xs) ≡ ahead_len X Y xs
  before-ahead xs e = before-first xs ∙ rw (e, pass-bytes xs)

  pub before-none : (s : Bytes) (i : ℕ) → length s ≤ i → bytes_before c d (lines_of (drop i s)) ≡ 0
  unfolding bytes_before lines_of
  before-none s i h = rw (drop_of_length-le s {i = i} h)
