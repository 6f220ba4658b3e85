-- The goals of `digit_count`. Assumes nothing.
use Rattle.std.proofs.Common.{arith}
use Rattle.base_digits.proofs.DigitStrings.{decimal-some, decimal-longer, decimal-short, decimal-at-most}
use Rattle.base_numerals.proofs.digit_count.Goals as goal

pub loop-m-init : goal.loop-m-init
loop-m-init c = omega (arith, decimal-short c.args.n (omega arith))

pub overflow_add-k : goal.overflow_add-k
overflow_add-k c = omega (arith, decimal-some c.loop-m.m)

pub loop-m-preserved : goal.loop-m-preserved
loop-m-preserved c = omega (arith, decimal-longer c.loop-m.m c.loop-m-test.true)

pub returns : goal.returns
returns c =
    let m = c.loop-m.m in
    omega (arith, decimal-some m, decimal-at-most 1 m (omega arith) c.loop-m-test.false)
