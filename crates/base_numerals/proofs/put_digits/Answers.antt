-- The goals of `put_digits`. Assumes nothing.
use Rattle.std.proofs.Common.{arith}
use Rattle.base_numerals.proofs.PutLaws.{all-left, one-put, put-fits, put-short}
use Rattle.base_numerals.proofs.put_digits.Goals as goal

pub returns-then-out-k : goal.returns-then-out-k
returns-then-out-k c = put-short _ _ (omega arith)

pub loop-i-init : goal.loop-i-init
loop-i-init c = all-left _ _ _ c.digit_count-k.ensures.0 c.if-out-k.false

pub loop-i-preserved : goal.loop-i-preserved
loop-i-preserved c = one-put _ _ _ _ _ c.loop-i.invariant c.loop-i-test.true

pub returns : goal.returns
returns c = put-fits _ _ _ _ (omega arith) c.digit_count-k.ensures.0 (c.loop-i.invariant.none (omega arith))
