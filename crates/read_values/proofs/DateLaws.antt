-- Six digits judged by the numbers that they stand for. Assumes nothing.
use Prim.Native.Nat.{ℕ}
use mathlib.Core.Path.{◌≡◌, refl}
use mathlib.Core.Bool.{Bool, true, false, cond, ◌&&◌}
use native.Mathlib.Omega.{arith}
use lib.ListN.{take, drop}
use Rattle.std.specs.Option.{is_some}
use Rattle.std.specs.Prelude.{Some, None}
use Rattle.rules.specs.Bytes.{Bytes, between}
use Rattle.rules.specs.Numbers.{digits, number}
use Rattle.rules.specs.Dates.{days_of, is_date}
use Rattle.base_digits.specs.NumbersRead.{value_of}
use Rattle.base_digits.proofs.ReadingLaws.{value-part}
use Rattle.read_values.specs.ValueMeanings.{date_in}
use Rattle.read_values.specs.declared.date.Date.{Date}

pub date-is : (s : Bytes) (year month day : ℕ) → digits 6 6 s ≡ true
    → year ≡ value_of (take 2 s) → month ≡ value_of (take 2 (drop 2 s)) → day ≡ value_of (take 2 (drop 4 s))
    → cond (between 1 12 month && between 1 (days_of year month) day) (Some (record { year = year; month = month; day = day })) None ≡ date_in s
unfolding date_in is_date
date-is s year month day d ey em ed =
    rw (ey, em, ed, value-part 6 6 2 0 s d (omega arith), value-part 6 6 2 2 s d (omega arith), value-part 6 6 2 4 s d (omega arith), d)

-- a date was found or not
found-by : (t : Bool) (d : Date) → is_some (cond t (Some d) None) ≡ t
found-by true d = refl
found-by false d = refl

pub found-date : (s : Bytes) → is_some (date_in s) ≡ is_date s
unfolding date_in
found-date s = found-by (is_date s) (record { year = number (take 2 s); month = number (take 2 (drop 2 s)); day = number (take 2 (drop 4 s)) })
