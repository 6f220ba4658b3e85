-- `field_extent`: the first comma or slash, found by a test of each byte in turn. Assumes nothing.
use Rattle.std.proofs.Common.{rules, tests}
use Rattle.std.proofs.lemmas.Iterator.{YieldsList-from_slice}
use Rattle.std.proofs.lemmas.Iterator.Search.{position_from_yields_List}
use Rattle.read_field_ends.specs.FieldLengths.{is_mark, extent_of}
use Rattle.read_field_ends.proofs.FieldLengthLaws.{until-position}
use Rattle.read_field_ends.proofs.field_extent.Goals as goal

pub returns : goal.returns
unfolding extent_of
returns c =
    let e = position_from_yields_List is_mark _ _ c.position.result c.position.ensures.ran (YieldsList-from_slice c.args.rest.now cc) (λ x b q k. search (rules, tests)) in
    rw (c.if-text.false, until-position is_mark c.args.rest.now) e
