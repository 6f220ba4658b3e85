-- `trimmed_len`: the last byte that is no blank, found by a test of each byte from behind. Assumes nothing.
use mathlib.Core.List.{reverse}
use native.Mathlib.Omega.{arith}
use lib.ListN.{length-reverse}
use Rattle.std.proofs.Common.{rules, tests}
use Rattle.std.proofs.lemmas.Iterator.Adapters.{YieldsList-from_rev_slice}
use Rattle.std.proofs.lemmas.Iterator.Search.{position_from_yields_List}
use Rattle.read_field_ends.proofs.FieldLengthLaws.{until-position, no_blank, trimmed-rest}
use Rattle.read_field_ends.proofs.trimmed_len.Goals as goal

pub returns : goal.returns
returns c =
    let s = c.args.f.now in
    let e = position_from_yields_List no_blank _ _ c.position.result c.position.ensures.ran (YieldsList-from_rev_slice s cc) (λ x b q k. search (rules, tests)) in
    let p = until-position no_blank (reverse s) in
    let l = length-reverse s in
    let t = trimmed-rest s in
    grind arith
