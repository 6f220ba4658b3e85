-- Answers for `Draft::add_number`: a number's digits fit their space. Assumes nothing.
use native.Mathlib.Omega.{arith}
use Rattle.write_line.proofs.LineSpace.{number-bytes, decimal-short}
use Rattle.write_line.proofs.Draft.add_number.Goals as goal

pub returns : goal.returns
returns c =
    let short = decimal-short c.args.n (omega arith) in
    rw (number-bytes c.put_digits-k.ensures (omega (arith, short))) at c.add.ensures
