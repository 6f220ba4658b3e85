-- `join_trailer::fresh_trailer` meets its contract. Assumes nothing.
use native.Mathlib.Omega.{arith}
use Rattle.base_quantities.specs.QuantityMeanings.{sum_meant}
use Rattle.join_trailer.proofs.TrailerLengths.{last-most, put-80}
use Rattle.join_trailer.proofs.fresh_trailer.Goals as goal

pub put_trailer-length-requires : goal.put_trailer-length-requires
put_trailer-length-requires c =
    let a = c.args in
    omega (arith, last-most (sum_meant a.total) a.groups.0 a.records.0 (omega arith) (omega arith) (omega arith) (omega arith))

pub returns : goal.returns
returns c =
    let a = c.args in
    let most = last-most (sum_meant a.total) a.groups.0 a.records.0 (omega arith) (omega arith) (omega arith) (omega arith) in
    put-80 _ _ _ most c.put_trailer-length.ensures
