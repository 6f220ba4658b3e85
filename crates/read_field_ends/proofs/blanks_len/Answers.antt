-- `blanks_len`: the first byte that is no blank, found by a test of each byte in turn. Assumes nothing.
use native.Mathlib.Omega.{arith}
use Rattle.std.proofs.Common.{rules, tests}
use Rattle.std.proofs.lemmas.Iterator.{YieldsList-from_slice}
use Rattle.std.proofs.lemmas.Iterator.Search.{position_from_yields_List}
use Rattle.read_field_ends.proofs.FieldLengthLaws.{until-position, until-within, no_blank, blanks-until}
use Rattle.read_field_ends.proofs.blanks_len.Goals as goal

pub returns : goal.returns
returns c =
    let s = c.args.f.now in
    let e = position_from_yields_List no_blank _ _ c.position.result c.position.ensures.ran (YieldsList-from_slice s cc) (λ x b q k. search (rules, tests)) in
    let p = until-position no_blank s in
    let w = until-within no_blank s in
    let b = blanks-until s in
    grind arith
