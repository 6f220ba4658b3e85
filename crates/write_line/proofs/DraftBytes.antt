-- Texts: the cases of the code's tests. Assumes nothing.
use mathlib.Core.Path.{◌≡◌, refl, ◌∙◌}
use mathlib.Core.Bool.{Bool, true, false, cond, not, ◌&&◌, ◌||◌, and-false}
use mathlib.Core.List.{[], ◌∷◌}
use Prim.Native.Nat.{ℕ, ◌-◌}
use native.Mathlib.Omega.{arith}
use lib.Dec.{leb, eqb}
use lib.ListN.{length, get_or}
use borrow.Author.Tests.{eq-eqb, ne_eqb}
use Rattle.rules.specs.Bytes.{Bytes, blank, slash, all, allowed, starts_with, same_bytes, trimmed, trimmed_before}
use Rattle.rules.specs.Writer.{good_text}

-- a byte in front of others is no trailing blank
same_step : (b c : ℕ) (bs ts : Bytes) → same_bytes (b ∷ c ∷ bs) (trimmed_before b ts) ≡ same_bytes (c ∷ bs) ts
unfolding same_bytes trimmed_before
same_step b c bs [] = by-test (eqb b blank)
  where
    by-test : (t : Bool) → same_bytes (b ∷ c ∷ bs) (cond t [] (b ∷ [])) ≡ false
    by-test true = refl
    by-test false = and-false (eqb b b)
same_step b c bs (x ∷ xs) = rw (eq-eqb b b refl)

one_byte : (b : ℕ) (t : Bool) → eqb b blank ≡ t → same_bytes (b ∷ []) (cond t [] (b ∷ [])) ≡ not t
unfolding same_bytes
one_byte b true e = refl
one_byte b false e = rw (eq-eqb b b refl)

-- a text stays as it is without trailing blanks exactly where its last byte is none
last-decides : (b : ℕ) (bs : Bytes) → same_bytes (b ∷ bs) (trimmed (b ∷ bs)) ≡ not (eqb (get_or (b ∷ bs) (length bs) 0) blank)
unfolding trimmed trimmed_before
last-decides b [] = one_byte b (eqb b blank) refl
last-decides b (c ∷ bs) = same_step b c bs (trimmed (c ∷ bs)) ∙ last-decides c bs

-- the tests of a text, by its length, its first byte and its last
abbrev tests : Bytes → Bool
tests t = leb (length t) 76 && (all allowed t && (eqb (length t) 0 || (not (eqb (get_or t 0 0) slash) && not (eqb (get_or t (length t - 1) 0) blank))))

none-good : good_text [] ≡ tests []
unfolding good_text all starts_with trimmed same_bytes
none-good = refl

some-good : (b : ℕ) (bs : Bytes) → good_text (b ∷ bs) ≡ tests (b ∷ bs)
unfolding good_text starts_with
some-good b bs =
    let k : length (b ∷ bs) - 1 ≡ length bs = omega arith in
    rw (ne_eqb (length (b ∷ bs)) 0 (omega arith), k, ← last-decides b bs)

pub good_text_is : (t : Bytes) → good_text t ≡ tests t
good_text_is [] = none-good
good_text_is (b ∷ bs) = some-good b bs
