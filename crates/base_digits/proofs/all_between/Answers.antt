-- The goals of `all_between`. Assumes nothing.
use Rattle.base_digits.proofs.DigitTests.{within, below, above}
use Rattle.base_digits.proofs.ReadingLaws.{go_on, stop, done}
use Rattle.base_digits.proofs.all_between.Goals as goal
use Rattle.base_digits.proofs.all_between.Goals.{then-b-lo-via-then-b-lo, then-b-lo-via-else-b-lo+then-hi-b}

pub returns-then-b-lo : goal.returns-then-b-lo
returns-then-b-lo c =
    stop _ _ _ c.loop-b.invariant c.loop-b-test.true
    (elim c.then-b-lo.branch [
      | then-b-lo-via-then-b-lo w ↦ below _ _ _ w.if-b-lo.true
      | then-b-lo-via-else-b-lo+then-hi-b w ↦ above _ _ _ w.if-hi-b.true
    ])

pub loop-b-preserved : goal.loop-b-preserved
loop-b-preserved c = go_on _ _ _ c.loop-b.invariant c.loop-b-test.true (within _ _ _ c.if-b-lo.false c.if-hi-b.false)

pub returns : goal.returns
returns c = done _ _ _ c.loop-b.invariant c.loop-b-test.false
