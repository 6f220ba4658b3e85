-- The goal of `adding`. Assumes nothing.
use Rattle.rules.specs.Totals.{adding}
use Rattle.base_totals.proofs.adding.Goals as goal

pub returns : goal.returns
unfolding adding
returns c = rw (c.one.ensures, c.one-2.ensures, c.one-3.ensures)
