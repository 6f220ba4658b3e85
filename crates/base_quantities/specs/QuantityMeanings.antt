-- Sums of units as the rules' sums, and where they and counts end. Assumes nothing.
use Rattle.std.specs.Prelude.{ℕ, ◌%◌, ◌^◌, cond, nat_le, Option, Some, None}
use Rattle.rules.specs.Numbers.{Signed, Sum, magnitudes}
use Rattle.rules.specs.Limits.{most}
use Rattle.base_quantities.specs.declared.Signed as declared
use Rattle.base_quantities.specs.declared.Units.{Units}

-- units as a sum
abbrev pub sum_meant : Units → Sum
sum_meant u = record { pluses = u.0; minuses = u.1 }

-- a sum as units
abbrev pub units_of : Sum → Units
units_of a = record { 0 = a.pluses; 1 = a.minuses }

-- units with a sign
abbrev pub signed_meant : declared.Signed → Signed
signed_meant s = record { negative = s.negative; magnitude = s.magnitude.0 }

-- a number of 64 bits, and a sum of such numbers; where nothing passes 64 bits they are the number and the sum themselves: `not-wrapped`, `sum-not-wrapped` (proofs/UnitsLaws.antt)
abbrev pub wrapped : ℕ → ℕ
wrapped n = n % 2 ^ 64

abbrev pub wrapped_sum : Sum → Sum
wrapped_sum a = record { pluses = wrapped a.pluses; minuses = wrapped a.minuses }

-- a sum as units, unless its magnitudes pass the largest
unfoldable pub units_within : Sum → Option Units
units_within a = cond (nat_le (magnitudes a) most) (Some (units_of a)) None

-- the largest count of records
abbrev pub most_records : ℕ
most_records = 18_446_744_073_709_551_615
