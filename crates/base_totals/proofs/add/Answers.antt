-- The goal of `add`. Assumes nothing.
use Rattle.std.proofs.Common.{refl}
use Rattle.rules.specs.Totals.{◌⊞◌}
use Rattle.base_totals.proofs.SummaryLaws.{same_numbers}
use Rattle.base_totals.proofs.add.Goals as goal

pub returns : goal.returns
unfolding ◌⊞◌
returns c = same_numbers _ _ c.add.ensures c.add-2.ensures c.add-3.ensures c.add-4.ensures refl
