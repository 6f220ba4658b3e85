-- The table's letters: each is the letter of what the list says of its place, and means that; at all thousand by one computed comparison. Assumes nothing.
use mathlib.Core.Path.{◌≡◌, refl, sym, ◌∙◌, ap}
use mathlib.Core.Bool.{cond}
use mathlib.Core.List.{List, [], ◌∷◌, map}
use Prim.Native.Nat.{ℕ, zero, suc, ◌+◌, ◌<◌}
use native.Mathlib.Nat.{add-zero, zero-add, add-suc, suc-add, le_of_suc-le-suc, not-suc-le-zero}
use lib.ListN.{get_or, get_or-map}
use Rattle.rules.specs.Bytes.{letter}
use Rattle.rules.specs.CodeList.{is_status, is_summary, Entry, unlisted, NA, CR, DB, entry_in, entry_of}
use Rattle.name_codes.specs.ClassMeaning.{entry_meant}

-- the letter for what the list says of a code
abbrev pub letter_of : Entry → ℕ
letter_of unlisted = letter "."
letter_of (NA l) = cond (is_status l) (letter "s") (letter "n")
letter_of (CR l) = cond (is_summary l) (letter "C") (letter "c")
letter_of (DB l) = cond (is_summary l) (letter "D") (letter "d")

-- what it says of n codes from this one on
unfoldable pub entries_from : ℕ → ℕ → List Entry
entries_from code zero = []
entries_from code (suc n) = entry_of code ∷ entries_from (suc code) n

abbrev pub letters : List ℕ
letters = map letter_of (entries_from 0 1000)

letters-right : map entry_meant letters ≡ entries_from 0 1000
unfolding entry_meant entries_from entry_in entry_of
letters-right = refl

entry_at : (code n k : ℕ) (e : Entry) → k < n → get_or (entries_from code n) k e ≡ entry_of (code + k)
unfolding entries_from
entry_at code zero k e below = absurd (not-suc-le-zero below)
entry_at code (suc n) zero e below = ap entry_of (sym (add-zero code))
entry_at code (suc n) (suc k) e below = entry_at (suc code) n k e (le_of_suc-le-suc below) ∙ ap entry_of (suc-add code k ∙ sym (add-suc code k))

-- a letter means what the list says of its place
pub letter_at : (code : ℕ) → code < 1000 → entry_meant (get_or letters code 0) ≡ entry_of code
letter_at code below =
    sym (get_or-map entry_meant letters code 0)
    ∙ ap (λ (es : List Entry). get_or es code (entry_meant 0)) letters-right
    ∙ entry_at 0 1000 code (entry_meant 0) below
    ∙ ap entry_of (zero-add code)
