-- Request 2026-01: the rule of the uniform list. Every listed code agrees with the ranges, document 01's as 2026-02 mends them for its level and source
-- document 000's for its side, except the codes that are named here; `code-rule` says so of the whole table, and that each of these does depart.
-- Assumes nothing.
use Rattle.std.specs.Prelude.{ℕ, Bool, true, false, not, ◌&&◌, ◌||◌, List, [], ◌∷◌, eqb}
use Rattle.rules.specs.Bytes.{between}
use Rattle.rules.specs.TypeCodes.{Class, status, summary_only, summary_or_detail, non_monetary, unknown, class_of}
use Rattle.rules.specs.CodeList.{Level, is_status, is_summary, is_detail, Entry, unlisted, NA, CR, DB, entry_of}

-- the codes that depart: 700 to 799 are loan summaries and details, and 000 prints these five as status
abbrev pub departures : List ℕ
departures = 701 ∷ 703 ∷ 705 ∷ 707 ∷ 709 ∷ []

-- the number is among these
unfoldable pub member : ℕ → List ℕ → Bool
member n [] = false
member n (m ∷ ms) = eqb m n || member n ms

-- the level is one that codes of this class may have
abbrev pub level_fits : Class → Level → Bool
level_fits status l = is_status l
level_fits summary_only l = is_summary l && not (is_detail l)
level_fits summary_or_detail l = is_summary l || is_detail l
level_fits non_monetary l = is_detail l && not (is_summary l)
level_fits unknown l = false

-- 000's ranges for the side: credits and debits; other codes may be either, or neither
abbrev pub in_credits : ℕ → Bool
in_credits n = between 100 399 n

abbrev pub in_debits : ℕ → Bool
in_debits n = between 400 699 n

-- what the list says of a code agrees with the ranges; of a code that it doesn't list, it says nothing
abbrev pub agrees : ℕ → Entry → Bool
agrees n unlisted = true
agrees n (NA l) = level_fits (class_of n) l && not (in_credits n || in_debits n)
agrees n (CR l) = level_fits (class_of n) l && not (in_debits n)
agrees n (DB l) = level_fits (class_of n) l && not (in_credits n)

-- a code departs
abbrev pub departs : ℕ → Bool
departs n = not (agrees n (entry_of n))
