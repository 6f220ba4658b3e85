-- `find_next::before_record`: the walk before a record's first line stands inside it, with the whole record ahead. Assumes nothing.
use native.Mathlib.Omega.{arith}
use mathlib.Core.Path.{sym, ap, subst, ◌∙◌}
use Rattle.find_next.specs.declared.Cursor.{Cursor}
use Rattle.find_next.specs.CursorMeaning.{trace_of, Inside}
use Rattle.find_next.proofs.CursorLaws.{trace-over}
use Rattle.find_next.proofs.before_record.Goals as goal

pub returns : goal.returns
returns c =
    let first = c.args.first in
    let is = c.before_line.ensures in (
      ap (λ (d : Cursor). d.want) is,
      λ rec least. (
        ap (λ (d : Cursor). trace_of rec least d) is ∙ trace-over rec least first (record { 0 = 0 }) (record { 0 = 0 }),
        subst (Inside rec) (sym is) (record { in-line = omega arith; in-record = omega arith; slashed = omega arith }),
      ),
    )
