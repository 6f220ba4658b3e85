-- `find_field::type_of`: a type's digits are read as the rules read them. Assumes nothing.
use mathlib.Core.Path.{◌∙◌}
use Rattle.find_field.proofs.DetailFields.{type-in}
use Rattle.find_field.proofs.type_of.Goals as goal

pub returns : goal.returns
returns c = c.value.ensures.0 ∙ type-in c.args.rec.now _ c.field.ensures
