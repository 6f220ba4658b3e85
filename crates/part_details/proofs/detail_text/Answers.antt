-- `part_details::detail_text` meets its contract. Assumes nothing.
use mathlib.Core.Path.{◌∙◌}
use Rattle.part_details.proofs.detail_text.Goals as goal

pub returns-in-Ok : goal.returns-in-Ok
returns-in-Ok c = c.bytes.ensures ∙ c.in-Ok.ensures.text.bytes

pub returns-in-Err : goal.returns-in-Err
returns-in-Err c = c.in-Err.ensures.text.bytes
