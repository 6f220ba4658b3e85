-- `type_class`: the number is the one that the digits stand for. Assumes nothing.
use native.Mathlib.Omega.{arith}
use Rattle.std.proofs.Common.{rules}
use Rattle.base_digits.proofs.ReadingLaws.{value-is}
use Rattle.rules.specs.TypeCodes.{type_class}
use Rattle.read_values.proofs.type_class.Goals as goal

pub returns-then-is_digits : goal.returns-then-is_digits
unfolding type_class
returns-then-is_digits c =
    let e = value-is 3 3 c.args.f.now (search rules) (omega arith) in
    grind arith
