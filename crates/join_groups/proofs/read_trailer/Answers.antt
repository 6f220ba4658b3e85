-- `join_groups::read_trailer` meets its contract. Assumes nothing.
use mathlib.Core.Path.{ap, ◌∙◌}
use Rattle.rules.specs.Amounts.{amount_adds}
use Rattle.rules.specs.Lines.{group_trailer, lines_of}
use Rattle.rules.specs.Grammar.{fields_of}
use Rattle.base_digits.specs.NumbersRead.{value_of}
use Rattle.base_amounts.specs.AmountsRead.{amount_read}
use Rattle.find_field.proofs.DetailFields.{total-found, records-found}
use Rattle.join_groups.proofs.read_trailer.Goals as goal

pub returns : goal.returns
returns c =
    let r = lines_of c.args.rec.now in (
      c.adds.ensures ∙ ap amount_adds (c.amount_in-total.ensures ∙ ap amount_read c.field.ensures ∙ total-found (fields_of group_trailer) r),
      c.value-records.ensures.0 ∙ ap value_of c.field-2.ensures ∙ records-found (fields_of group_trailer) r,
    )
