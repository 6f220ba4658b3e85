-- `part_fields::fields_at` meets its contract. Assumes nothing.
use mathlib.Core.Path.{sym, ap, ◌∙◌}
use Rattle.base_codes.specs.CodeMeaning.{code_meant}
use Rattle.read_lines.specs.LineAnswers.{code_found}
use Rattle.part_fields.proofs.FieldsLaws.{past-gives, uncoded-gives, found-gives}
use Rattle.part_fields.proofs.fields_at.Goals as goal

pub returns-then-file-start : goal.returns-then-file-start
returns-then-file-start c =
    let a = c.args in
    rw c.nowhere.ensures (past-gives a.file.now a.start.0 a.out.now c.if-file-start.true)

pub returns-in_default : goal.returns-in_default
returns-in_default c =
    let a = c.args in
    rw c.at.ensures (uncoded-gives a.file.now a.start.0 a.out.now c.if-file-start.false (sym (ap code_found c.in_default.is) ∙ c.code_at.ensures))

pub returns : goal.returns
returns c =
    let a = c.args in
    c.fields_of.ensures
    ∙ found-gives a.file.now a.start.0 a.out.now c.if-file-start.false (code_meant c.in-Some.code) (sym (ap code_found c.in-Some.is) ∙ c.code_at.ensures)
