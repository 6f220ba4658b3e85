-- `find_field::amount_of`: an amount's digits are read as the rules read them. Assumes nothing.
use mathlib.Core.Path.{◌∙◌}
use Rattle.find_field.proofs.DetailFields.{amount-in}
use Rattle.find_field.proofs.amount_of.Goals as goal

pub returns : goal.returns
returns c = c.amount_in.ensures ∙ amount-in c.args.rec.now _ c.field.ensures
