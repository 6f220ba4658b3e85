-- Bytes up to a comma or slash, blanks in front, and trailing blanks. Assumes nothing.
use Prim.Native.Nat.{ℕ, suc, ◌+◌, ◌≤◌, ◌<◌, zero-le}
use mathlib.Core.Path.{◌≡◌, refl, sym, ap, ◌∙◌}
use mathlib.Core.Bool.{Bool, true, false, cond, not}
use mathlib.Core.List.{[], ◌∷◌, ◌++◌, reverse, reverse-cons, reverse-reverse}
use native.Mathlib.Omega.{arith}
use lib.Dec.{eqb, ltb}
use lib.ListN.{length, take, length-take, length-append, length-reverse}
use borrow.Author.Tests.{ne_eqb, eq-eqb, eqb-true, ltb-true, ltb-false}
use Rattle.rules.specs.Bytes.{Bytes, blank, trimmed, trimmed_before}
use Rattle.rules.proofs.Tests.{Known, holds, fails, known}
use Rattle.rules.specs.Cells.{leading_blanks}
use Rattle.read_field_ends.specs.FieldLengths.{until, field_len, extent_of}
use Rattle.std.specs.Prelude.{Some, None}
use Rattle.std.specs.List.{position_or_len}
use Rattle.std.proofs.lemmas.Bool.{false≢true}
use Rattle.std.proofs.lemmas.List.Recursion.{is_position_or_len}

-- ---- up to the first byte that passes a test

one_more : (t : Bool) (n : ℕ) → cond t 0 (suc n) ≡ cond t 0 (1 + n)
one_more true n = refl
one_more false n = omega arith

pub until-position : (test : ℕ → Bool) (f : Bytes) → until test f ≡ position_or_len test f
unfolding until
until-position test f = is_position_or_len (until test) test refl (λ b bs. one_more (test b) (until test bs)) f

pub until-within : (test : ℕ → Bool) (f : Bytes) → until test f ≤ length f
unfolding until
until-within test [] = zero-le
until-within test (b ∷ f) = go (test b) (until-within test f)
  where
    go : (t : Bool) → until test f ≤ length f → cond t 0 (suc (until test f)) ≤ suc (length f)
    go true h = zero-le
    go false h = omega arith

-- ---- blanks in front

-- a byte that is no blank
abbrev pub no_blank : ℕ → Bool
no_blank b = not (eqb b blank)

pub blanks-until : (f : Bytes) → until no_blank f ≡ leading_blanks f
unfolding until leading_blanks
blanks-until [] = refl
blanks-until (b ∷ f) = go (eqb b blank) (blanks-until f)
  where
    go : (t : Bool) → until no_blank f ≡ leading_blanks f → cond (not t) 0 (suc (until no_blank f)) ≡ cond t (suc (leading_blanks f)) 0
    go true ih = ap suc ih
    go false ih = refl

-- ---- trailing blanks

blank-last : (s : Bytes) → trimmed (s ++ (blank ∷ [])) ≡ trimmed s
unfolding trimmed trimmed_before
blank-last [] = refl
blank-last (b ∷ s) = ap (trimmed_before b) (blank-last s)

before-some : (b c : ℕ) (s : Bytes) → trimmed_before b (s ++ (c ∷ [])) ≡ b ∷ s ++ (c ∷ [])
unfolding trimmed_before
before-some b c [] = refl
before-some b c (d ∷ s) = refl

other_last : (s : Bytes) (b : ℕ) → (b ≡ blank → ⊥) → trimmed (s ++ (b ∷ [])) ≡ s ++ (b ∷ [])
unfolding trimmed trimmed_before
other_last [] b h = rw (ne_eqb b blank h)
other_last (c ∷ s) b h = ap (trimmed_before c) (other_last s b h) ∙ before-some c b s

-- so many blanks stand behind: in front of the bytes in reverse
trimmed-behind : (r : Bytes) → length (trimmed (reverse r)) + until no_blank r ≡ length r
unfolding until trimmed
trimmed-behind [] = refl
trimmed-behind (b ∷ r) = rw (reverse-cons b r) (go (known (eqb b blank)) (trimmed-behind r))
  where
    go : Known (eqb b blank) → length (trimmed (reverse r)) + until no_blank r ≡ length r
        → length (trimmed (reverse r ++ (b ∷ []))) + cond (not (eqb b blank)) 0 (suc (until no_blank r)) ≡ suc (length r)
    go (holds e) ih = rw (e, eqb-true b blank e, blank-last (reverse r)) (omega arith)
    go (fails e) ih =
        rw (e, other_last (reverse r) b (λ h. absurd (false≢true (sym e ∙ eq-eqb b blank h))), length-append (reverse r) (b ∷ []), length-reverse r)
        (omega arith)

pub trimmed-rest : (s : Bytes) → length (trimmed s) + until no_blank (reverse s) ≡ length s
trimmed-rest s = rw (reverse-reverse s, length-reverse s) at (trimmed-behind (reverse s))

-- what is left is the front
trim-front-step : (b : ℕ) (s t : Bytes) → t ≡ trimmed s → take (length t) s ≡ t → take (length (trimmed_before b t)) (b ∷ s) ≡ trimmed_before b t
unfolding trimmed_before
trim-front-step b s [] e ih = go (eqb b blank)
  where
    go : (x : Bool) → take (length (cond x [] (b ∷ []))) (b ∷ s) ≡ cond x [] (b ∷ [])
    go true = refl
    go false = refl
trim-front-step b s (c ∷ cs) e ih = ap (λ (l : Bytes). b ∷ l) ih

pub trim-front : (s : Bytes) → take (length (trimmed s)) s ≡ trimmed s
unfolding trimmed
trim-front [] = refl
trim-front (b ∷ s) = trim-front-step b s (trimmed s) refl (trim-front s)

-- ---- what a caller knows of how far a field goes

cond-field : (t : Bool) (n m : ℕ) → Some n ≡ cond t (Some m) None → (t ≡ true) × (n ≡ m)
cond-field true n m e = (refl, cc)
cond-field false n m e = absurd (let z : ◌≡◌ {A = ℕ} 0 1 = cc in omega arith)

-- a field that is no text ends at its comma or slash
pub extent-short : (s : Bytes) (n : ℕ) → Some n ≡ extent_of false s → (n ≡ field_len s) × (n < length s)
unfolding extent_of
extent-short s n e =
    let z = cond-field (ltb (field_len s) (length s)) n (field_len s) e in
    (z.1, rw z.1 (ltb-true (field_len s) (length s) z.0))

cond-open : (t : Bool) (m : ℕ) → None ≡ cond t (Some m) None → t ≡ false
cond-open true m e = absurd (let z : ◌≡◌ {A = ℕ} 0 1 = cc in omega arith)
cond-open false m e = refl

-- where the line is open, it has no comma or slash, and no text was wanted
pub extent-open : (text : Bool) (s : Bytes) → None ≡ extent_of text s → (text ≡ false) × (length s ≤ field_len s)
unfolding extent_of
extent-open true s e = absurd (let z : ◌≡◌ {A = ℕ} 0 1 = cc in omega arith)
extent-open false s e = (refl, ltb-false (field_len s) (length s) (cond-open (ltb (field_len s) (length s)) (field_len s) e))

-- a text is all of the line, less trailing blanks
pub extent-text : (s : Bytes) (n : ℕ) → Some n ≡ extent_of true s → take n s ≡ trimmed s
unfolding extent_of
extent-text s n e = let z : n ≡ length (trimmed s) = cc in rw z (trim-front s)

pub extent-within : (text : Bool) (s : Bytes) (n : ℕ) → Some n ≡ extent_of text s → n ≤ length s
unfolding extent_of
extent-within true s n e =
    let z : n ≡ length (trimmed s) = cc in
    let l = ap length (trim-front s) in
    omega (arith, length-take (length (trimmed s)) s)
extent-within false s n e = omega (arith, (extent-short s n e).1)
