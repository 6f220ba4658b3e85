-- A line's body and its code, by the lengths and bytes that the code finds. Assumes nothing.
use Prim.Native.Nat.{ℕ, suc, ◌+◌, ◌-◌, ◌≤◌, ◌<◌}
use mathlib.Core.Path.{◌≡◌, refl, ap, sym, ◌∙◌}
use mathlib.Core.List.{List, [], ◌∷◌}
use mathlib.Core.Bool.{Bool, true, false, ◌&&◌}
use mathlib.Core.Option.{some}
use native.Mathlib.Omega.{arith}
use native.Mathlib.Numerals.{add-one}
use native.Mathlib.Nat.{suc-add}
use borrow.Author.Tests.{ne_eqb, eq-eqb, eqb-true, eqb-false}
use lib.ListN.{length, take, drop, get_or, length-drop}
use lib.Seq.{drop-cons}
use lib.Dec.{T, eqb, leb, leb→le}
use Rattle.rules.specs.Bytes.{Bytes, allowed, between, same_bytes, all}
use Rattle.rules.specs.Lines.{Code, code_bytes, begins, continuation, file_header, group_header, account_header, detail, account_trailer, group_trailer, file_trailer, code_in}
use Rattle.rules.proofs.Tests.{Known, holds, fails, known, and_left, and_right}
use Rattle.std.specs.Prelude.{map}
use Rattle.base_codes.specs.declared.Code as base
use Rattle.base_codes.specs.CodeMeaning.{code_meant}
use Rattle.read_lines.specs.LineLengths.{run, is_end, stops_at, body_len, first_line}
use Rattle.read_lines.proofs.RunLengths.{plain_byte}

-- ---- after bytes from a blank up

pub not-below : (b : ℕ) → T (allowed b) → 32 ≤ b
not-below b h = leb→le 32 b (and_left (leb 32 b) (leb b 126) h)

body-step : (high b : ℕ) (bs : Bytes) → body_len bs ≡ run (stops_at high) bs + body_len (drop (run (stops_at high) bs) bs) → Known (between 32 high b)
    → body_len (b ∷ bs) ≡ run (stops_at high) (b ∷ bs) + body_len (drop (run (stops_at high) (b ∷ bs)) (b ∷ bs))
unfolding run
body-step high b bs ih (holds e) =
    let h = leb→le 32 b (and_left (leb 32 b) (leb b high) (rw e tt)) in
    simp (e, plain_byte b bs h) (ap suc ih ∙ sym (suc-add (run (stops_at high) bs) (body_len (drop (run (stops_at high) bs) bs))))
body-step high b bs ih (fails e) = simp e (omega arith)

-- a line goes on after bytes from a blank up
pub body-after : (high : ℕ) (xs : Bytes) → body_len xs ≡ run (stops_at high) xs + body_len (drop (run (stops_at high) xs) xs)
unfolding run
body-after high [] = refl
body-after high (b ∷ bs) = body-step high b bs (body-after high bs) (known (between 32 high b))

-- ---- a line's first bytes are the first of what is left of the file

other_byte : (c b : ℕ) (bs : Bytes) → T (allowed c) → is_end b bs ≡ true → eqb c b ≡ false
other_byte c b bs h e =
    ne_eqb c b (λ q.
    let l = not-below c h in
    let f = plain_byte b bs (omega arith) in
    let y : ◌≡◌ {A = ℕ} 0 1 = cc in
    omega arith)

front-step : (c b : ℕ) (cs bs : Bytes) → T (allowed c) → same_bytes cs (take (length cs) (take (body_len bs) bs)) ≡ same_bytes cs (take (length cs) bs) → Known (is_end b bs)
    → same_bytes (c ∷ cs) (take (suc (length cs)) (take (body_len (b ∷ bs)) (b ∷ bs))) ≡ same_bytes (c ∷ cs) (b ∷ take (length cs) bs)
unfolding same_bytes run
front-step c b cs bs h ih (holds e) = simp e (rw (other_byte c b bs h e))
front-step c b cs bs h ih (fails e) = simp e (rw ih)

same-front : (cs : Bytes) → T (all allowed cs) → (xs : Bytes) → same_bytes cs (take (length cs) (take (body_len xs) xs)) ≡ same_bytes cs (take (length cs) xs)
unfolding all same_bytes run
same-front [] h xs = refl
same-front (c ∷ cs) h [] = refl
same-front (c ∷ cs) h (b ∷ bs) =
    front-step c b cs bs (and_left (allowed c) (all allowed cs) h) (same-front cs (and_right (allowed c) (all allowed cs) h) bs) (known (is_end b bs))

pub begins-front : (c : Code) (xs : Bytes) → begins c (first_line xs) ≡ same_bytes (code_bytes c) (take 3 xs)
unfolding begins all
begins-front file_header xs = same-front (code_bytes file_header) tt xs
begins-front group_header xs = same-front (code_bytes group_header) tt xs
begins-front account_header xs = same-front (code_bytes account_header) tt xs
begins-front detail xs = same-front (code_bytes detail) tt xs
begins-front account_trailer xs = same-front (code_bytes account_trailer) tt xs
begins-front group_trailer xs = same-front (code_bytes group_trailer) tt xs
begins-front file_trailer xs = same-front (code_bytes file_trailer) tt xs
begins-front continuation xs = same-front (code_bytes continuation) tt xs

-- ---- three bytes at an index

and_no : (t : Bool) → (t && false) ≡ false
and_no true = refl
and_no false = refl

and-true : (t : Bool) → (t && true) ≡ t
and-true true = refl
and-true false = refl

pub eqb_swap : (a b : ℕ) → eqb a b ≡ eqb b a
eqb_swap a b = by-test (known (eqb a b))
  where
    by-test : Known (eqb a b) → eqb a b ≡ eqb b a
    by-test (holds e) = e ∙ sym (eq-eqb b a (sym (eqb-true a b e)))
    by-test (fails e) = e ∙ sym (ne_eqb b a (λ q. eqb-false a b e (sym q)))

too_short : (x y : ℕ) (xs : Bytes) → length xs < 3 → false ≡ same_bytes (x ∷ y ∷ 44 ∷ []) (take 3 xs)
unfolding same_bytes
too_short x y [] h = refl
too_short x y (b ∷ []) h = sym (and_no (eqb x b))
too_short x y (b ∷ c ∷ []) h = sym (ap (λ (t : Bool). eqb x b && t) (and_no (eqb y c)) ∙ and_no (eqb x b))
too_short x y (b ∷ c ∷ d ∷ bs) h = absurd (omega arith)

module _ (s : Bytes) (i x y : ℕ) where
  pub three-short : length s - i < 3 → false ≡ same_bytes (x ∷ y ∷ 44 ∷ []) (take 3 (drop i s))
  three-short h = too_short x y (drop i s) (omega (arith, length-drop i s))

  three-at : i + 2 < length s → same_bytes (x ∷ y ∷ 44 ∷ []) (take 3 (drop i s)) ≡ (eqb x (get_or s i 0) && (eqb y (get_or s (i + 1) 0) && (eqb 44 (get_or s (i + 2) 0) && true)))
  unfolding same_bytes
  three-at h =
      let a = drop-cons s i 0 (omega arith) in
      let b : drop (suc i) s ≡ get_or s (i + 1) 0 ∷ drop (suc (i + 1)) s = ap (λ (n : ℕ). drop n s) (sym (add-one i)) ∙ drop-cons s (i + 1) 0 (omega arith) in
      let e : suc (i + 1) ≡ i + 2 = omega arith in
      let d : drop (suc (i + 1)) s ≡ get_or s (i + 2) 0 ∷ drop (suc (i + 2)) s = ap (λ (n : ℕ). drop n s) e ∙ drop-cons s (i + 2) 0 (omega arith) in
      rw (a, b, d)

  -- with its bytes told
  module _ (h : i + 2 < length s) where
    pub three-first : (get_or s i 0 ≡ x → ⊥) → false ≡ same_bytes (x ∷ y ∷ 44 ∷ []) (take 3 (drop i s))
    three-first e = sym (three-at h ∙ rw (ne_eqb x (get_or s i 0) (λ q. e (sym q))))

    module _ (e : get_or s i 0 ≡ x) where
      pub three-second : (get_or s (i + 1) 0 ≡ y → ⊥) → false ≡ same_bytes (x ∷ y ∷ 44 ∷ []) (take 3 (drop i s))
      three-second f = sym (three-at h ∙ rw (eq-eqb x (get_or s i 0) (sym e), ne_eqb y (get_or s (i + 1) 0) (λ q. f (sym q))))

      pub three_third : get_or s (i + 1) 0 ≡ y → eqb (get_or s (i + 2) 0) 44 ≡ same_bytes (x ∷ y ∷ 44 ∷ []) (take 3 (drop i s))
      three_third f =
          sym (three-at h ∙ rw (eq-eqb x (get_or s i 0) (sym e), eq-eqb y (get_or s (i + 1) 0) (sym f)) (and-true (eqb 44 (get_or s (i + 2) 0)) ∙ eqb_swap 44 (get_or s (i + 2) 0)))

-- ---- the line's code, sought among codes one by one, from the one at i on

module _ (s : Bytes) (at : ℕ) (cs : List base.Code) (i : ℕ) (d : base.Code) (h : i < length cs) (t : Bool)
    (e : t ≡ same_bytes (code_bytes (code_meant (get_or cs i d))) (take 3 (drop at s))) where
  pub code_here : t ≡ true → code_in (map code_meant (drop i cs)) (first_line (drop at s)) ≡ some (code_meant (get_or cs i d))
  unfolding code_in
  code_here q = rw (drop-cons cs i d h, begins-front (code_meant (get_or cs i d)) (drop at s) ∙ sym e ∙ q)

  pub code-after : t ≡ false → code_in (map code_meant (drop i cs)) (first_line (drop at s)) ≡ code_in (map code_meant (drop (i + 1) cs)) (first_line (drop at s))
  unfolding code_in
  code-after q = rw (drop-cons cs i d h, add-one, begins-front (code_meant (get_or cs i d)) (drop at s) ∙ sym e ∙ q)
