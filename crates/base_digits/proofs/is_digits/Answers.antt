-- The goals of `is_digits`. Assumes nothing.
use Rattle.base_digits.proofs.ReadingLaws.{digits-short, digits_long, digits-all}
use Rattle.base_digits.proofs.is_digits.Goals as goal
use Rattle.base_digits.proofs.is_digits.Goals.{then-s-lo-via-then-s-lo, then-s-lo-via-else-s-lo+then-hi-s}

pub returns-then-s-lo : goal.returns-then-s-lo
returns-then-s-lo c =
    elim c.then-s-lo.branch [
      | then-s-lo-via-then-s-lo w ↦ digits-short _ _ _ w.if-s-lo.true
      | then-s-lo-via-else-s-lo+then-hi-s w ↦ digits_long _ _ _ w.if-hi-s.true
    ]

pub returns : goal.returns
returns c = digits-all _ _ _ _ c.if-s-lo.false c.if-hi-s.false c.all_between.ensures
