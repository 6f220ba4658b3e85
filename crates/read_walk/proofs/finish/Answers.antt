-- `finish` meets its contract. Assumes nothing.
use Rattle.std.proofs.Common.{sym, ◌∙◌}
use Rattle.read_walk.specs.WalkKept.{end_k}
use Rattle.read_walk.proofs.finish.Goals as goal

pub returns-then-may_lack : goal.returns-then-may_lack
unfolding end_k
returns-then-may_lack c = rw (sym c.may_lack.ensures ∙ c.if-may_lack.true)

pub returns : goal.returns
unfolding end_k
returns c = rw (c.at.ensures, sym c.may_lack.ensures ∙ c.if-may_lack.false)
