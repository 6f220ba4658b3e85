-- `part_groups::part_end` meets its contract. Assumes nothing.
use mathlib.Core.Path.{refl, sym, ◌∙◌}
use Rattle.base_codes.specs.CodeMeaning.{code_meant}
use Rattle.part_groups.proofs.PartTurns.{spans}
use Rattle.part_groups.proofs.part_end.Goals as goal

pub returns-then-not-begins : goal.returns-then-not-begins
returns-then-not-begins c = rw c.nowhere.ensures (sym c.begins.ensures ∙ c.if-not-begins.true, refl)

pub returns : goal.returns
returns c =
    let a = c.args in
    let first = c.record_end-first_end in
    let begun = sym c.begins.ensures ∙ c.if-not-begins.false in
    let places =
    spans (code_meant a.opening) (code_meant a.closing) a.s.now a.start.0 first.result.0 c.next_line_of.result.0 begun c.requires first.ensures c.next_line_of.ensures in
    record { opens = begun; first_end = first.result.0; first = first.ensures.0; end = c.next_line_of.ensures.0; past = places.0; within = places.1 }
