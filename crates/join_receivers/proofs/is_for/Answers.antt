-- `join_receivers::is_for` meets its contract. Assumes nothing.
use mathlib.Core.Path.{ap, ◌∙◌}
use Rattle.rules.specs.Bytes.{same_bytes}
use Rattle.join_receivers.proofs.is_for.Goals as goal

pub returns : goal.returns
returns c = c.same_bytes.ensures ∙ ap (same_bytes c.args.name.now) c.field.ensures
