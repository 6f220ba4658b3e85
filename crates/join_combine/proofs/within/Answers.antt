-- `join_combine::within` meets its contract. Assumes nothing.
use Rattle.std.specs.Prelude.{Result}
use mathlib.Core.Path.{◌≡◌, sym, ◌∙◌}
use borrow.Author.Tests.{le-leb}
use Rattle.rules.specs.Lines.{lines_of}
use Rattle.rules.proofs.Tests.{is_true}
use Rattle.join_combine.proofs.LimitLaws.{within_more, none-told}
use Rattle.join_combine.proofs.within.Goals as goal

pub returns-then-known-limit : goal.returns-then-known-limit
returns-then-known-limit c =
    let a = c.args in
    le-leb a.known a.limit c.if-known-limit.true ∙ sym (is_true _ (within_more a.known a.limit c.if-known-limit.true (lines_of a.s.now) c.requires))

pub returns-else-known-limit : goal.returns-else-known-limit
returns-else-known-limit c = c.is_ok.ensures.value ∙ none-told c.args.limit (lines_of c.args.s.now) c.none_longer.result c.none_longer.ensures.0
