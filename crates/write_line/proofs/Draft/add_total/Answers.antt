-- Answers for `Draft::add_total`: a total's bytes fit their space. Assumes nothing.
use native.Mathlib.Omega.{arith}
use Rattle.base_quantities.specs.QuantityMeanings.{sum_meant}
use Rattle.write_line.proofs.LineSpace.{number-bytes, total-short}
use Rattle.write_line.proofs.Draft.add_total.Goals as goal

pub returns : goal.returns
returns c =
    let short = total-short (sum_meant c.args.total) (omega arith) (omega arith) in
    rw (number-bytes c.put_total-k.ensures (omega (arith, short))) at c.add.ensures
