-- "Fields end at a comma or slash": how long the first field is of what is left of a line. Assumes nothing.
use Rattle.std.specs.Prelude.{ℕ, suc, Bool, true, false, cond, ◌||◌, [], ◌∷◌, eqb, ltb, length, Option, Some, None}
use Rattle.rules.specs.Bytes.{Bytes, comma, slash, trimmed}

-- how many bytes stand before the first that passes the test
unfoldable pub until : (ℕ → Bool) → Bytes → ℕ
until test [] = 0
until test (b ∷ bs) = cond (test b) 0 (suc (until test bs))

-- a comma or slash
abbrev pub is_mark : ℕ → Bool
is_mark b = eqb b comma || eqb b slash

-- the first field's length: of the first of `cells_from` (rules/specs/Cells.antt); joined by `first-comma`, `first-slash` and `first-open` (read_walk/proofs/FirstCells.antt)
abbrev pub field_len : Bytes → ℕ
field_len bs = until is_mark bs

-- a text takes all, less trailing blanks; any other field ends at a comma or slash; none: the line ends before one
unfoldable pub extent_of : Bool → Bytes → Option ℕ
extent_of true bs = Some (length (trimmed bs))
extent_of false bs = cond (ltb (field_len bs) (length bs)) (Some (field_len bs)) None
