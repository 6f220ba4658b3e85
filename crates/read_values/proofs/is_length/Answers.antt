-- `is_length`: the number is the one that the digits stand for. Assumes nothing.
use native.Mathlib.Omega.{arith}
use Rattle.std.proofs.Common.{rules}
use Rattle.base_digits.proofs.ReadingLaws.{value-is}
use Rattle.rules.specs.Grammar.{is_length}
use Rattle.read_values.proofs.is_length.Goals as goal

pub returns-then-is_digits : goal.returns-then-is_digits
unfolding is_length
returns-then-is_digits c =
    let e = value-is 1 4 c.args.f.now (search rules) (omega arith) in
    grind arith
