-- Document 02, 2026-03: reading one amount tells four things apart, empty, unsigned, with plus, with minus; and, of document 01, "Totals and counts", what an amount adds. Assumes nothing.
use Rattle.std.specs.Prelude.{ℕ, cond, [], ◌∷◌, eqb}
use Rattle.rules.specs.Bytes.{Bytes, plus, minus}
use Rattle.rules.specs.Numbers.{number, Sum, zero_sum}

-- an amount or a total as a field gives it
pub data Amount : Type 0 where
  empty : Amount
  unsigned with_plus with_minus : (magnitude : ℕ) → Amount

-- a field's amount
unfoldable pub amount_in : Bytes → Amount
amount_in [] = empty
amount_in (b ∷ bs) =
    cond (eqb b plus) (with_plus (number bs))
    (cond (eqb b minus) (with_minus (number bs))
    (unsigned (number (b ∷ bs))))

-- its magnitude; 0 where it is empty
abbrev pub magnitude_of : Amount → ℕ
magnitude_of empty = 0
magnitude_of (unsigned n) = n
magnitude_of (with_plus n) = n
magnitude_of (with_minus n) = n

-- what it adds to a total: an empty one adds 0, and so does minus zero
abbrev pub amount_adds : Amount → Sum
amount_adds empty = zero_sum
amount_adds (unsigned n) = record { pluses = n; minuses = 0 }
amount_adds (with_plus n) = record { pluses = n; minuses = 0 }
amount_adds (with_minus n) = record { pluses = 0; minuses = n }
