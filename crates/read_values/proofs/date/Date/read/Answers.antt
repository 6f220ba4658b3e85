-- `read`: the numbers are those that the digits stand for. Assumes nothing.
use native.Mathlib.Omega.{arith}
use Rattle.std.proofs.Common.{rules}
use Rattle.read_values.proofs.DateLaws.{date-is}
use Rattle.read_values.proofs.date.Date.read.Goals as goal
use Rattle.read_values.proofs.date.Date.read.Goals.{
  then-month-lt1-via-then-month-lt1,
  then-month-lt1-via-else-month-lt1+then-month-gt-MONTHS,
  then-month-lt1-via-else-month-lt1+else-month-gt-MONTHS+then-day-lt1,
  then-month-lt1-via-else-month-lt1+else-month-gt-MONTHS+else-day-lt1+then-days_in-day,
}

pub returns-then-month-lt1 : goal.returns-then-month-lt1
returns-then-month-lt1 c =
    let e = date-is c.args.f.now c.value-year.result c.value-month.result c.value-day.result (search rules) (search rules) (search rules) (search rules) in
    elim c.then-month-lt1.branch [
      | then-month-lt1-via-then-month-lt1 w ↦ grind arith
      | then-month-lt1-via-else-month-lt1+then-month-gt-MONTHS w ↦ grind arith
      | then-month-lt1-via-else-month-lt1+else-month-gt-MONTHS+then-day-lt1 w ↦ grind arith
      | then-month-lt1-via-else-month-lt1+else-month-gt-MONTHS+else-day-lt1+then-days_in-day w ↦ grind arith
    ]

pub returns : goal.returns
returns c =
    let e = date-is c.args.f.now c.value-year.result c.value-month.result c.value-day.result (search rules) (search rules) (search rules) (search rules) in
    grind arith
