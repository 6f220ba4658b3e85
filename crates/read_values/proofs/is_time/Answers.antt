-- `is_time`: the numbers are those that the digits stand for. Assumes nothing.
use mathlib.Core.Path.{◌≡◌}
use mathlib.Core.Bool.{true}
use native.Mathlib.Omega.{arith}
use Rattle.std.proofs.Common.{rules}
use Rattle.base_digits.proofs.ReadingLaws.{value-is, value-part}
use Rattle.rules.specs.Numbers.{digits}
use Rattle.rules.specs.Dates.{is_time}
use Rattle.read_values.proofs.is_time.Goals as goal

pub returns-then-n-eq-END_OF_DAY : goal.returns-then-n-eq-END_OF_DAY
unfolding is_time
returns-then-n-eq-END_OF_DAY c =
    let d : digits 4 4 c.args.f.now ≡ true = search rules in
    let n = value-is 4 4 c.args.f.now d (omega arith) in
    let h = value-part 4 4 2 0 c.args.f.now d (omega arith) in
    let m = value-part 4 4 2 2 c.args.f.now d (omega arith) in
    grind arith

pub returns-else-n-eq-END_OF_DAY : goal.returns-else-n-eq-END_OF_DAY
unfolding is_time
returns-else-n-eq-END_OF_DAY c =
    let d : digits 4 4 c.args.f.now ≡ true = search rules in
    let n = value-is 4 4 c.args.f.now d (omega arith) in
    let h = value-part 4 4 2 0 c.args.f.now d (omega arith) in
    let m = value-part 4 4 2 2 c.args.f.now d (omega arith) in
    grind arith
