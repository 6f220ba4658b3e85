-- The goals of `put_total`. Assumes nothing.
use Rattle.base_quantities.specs.QuantityMeanings.{sum_meant}
use Rattle.base_digits.proofs.TotalStrings.{total-below-zero, total-from-zero}
use Rattle.base_numerals.proofs.put_total.Goals as goal

pub returns-then-pluses-minuses : goal.returns-then-pluses-minuses
returns-then-pluses-minuses c = rw (total-below-zero (sum_meant c.args.total) c.if-pluses-minuses.true) c.put_digits_after.ensures

pub returns : goal.returns
returns c = rw (total-from-zero (sum_meant c.args.total) c.if-pluses-minuses.false) c.put_digits.ensures
