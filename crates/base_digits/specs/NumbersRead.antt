-- What reading a number finds. Assumes nothing.
use Rattle.std.specs.Prelude.{ℕ, cond}
use Rattle.rules.specs.Bytes.{Bytes}
use Rattle.rules.specs.Numbers.{digits, number}

-- the number that up to 18 digits stand for; 0 for anything else. Stands for `number` (rules/specs/Numbers.antt); joined by `value-is` (proofs/ReadingLaws.antt)
unfoldable pub value_of : Bytes → ℕ
value_of bs = cond (digits 0 18 bs) (number bs) 0
