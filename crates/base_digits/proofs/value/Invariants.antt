-- What the loop of `value` keeps: v is the value of the digits so far; and the number less zeros in front, over which it goes, has the value of the whole. Assumes nothing.
use Rattle.std.proofs.Common.{◌≡◌, length, ◌≤◌}
use Rattle.base_digits.specs.NumbersRead.{value_of}
use Rattle.base_digits.proofs.ReadingLaws.{Reading}
use Rattle.base_digits.proofs.value.Given as goal

abbrev pub invariant-loop-b : goal.invariant-loop-b
invariant-loop-b l = Reading l.b-items l.b-index l.v × (value_of l.b-items ≡ value_of l.s) × length l.b-items ≤ 18
