-- `join_split::split` meets its contract. Assumes nothing.
use mathlib.Core.Path.{◌≡◌, sym, ap, ◌∙◌}
use Rattle.std.proofs.lemmas.Result.{err_from_is_err_and}
use Rattle.rules.specs.Outcome.{refused}
use Rattle.rules.specs.Combine.{answered}
use Rattle.base_refusals.specs.declared.Refusal.{Refusal}
use Rattle.base_refusals.specs.RefusalMeaning.{refusal_meant}
use Rattle.join_trailer.proofs.FitsLaws.{not-fitting, written, room-says}
use Rattle.join_split.specs.SplitAnswers.{split_result}
use Rattle.join_split.proofs.NameLaws.{refused-told, split-16, split-refused, split-accepted}
use Rattle.join_split.proofs.split.Goals as goal

pub returns-then-not-is_asked : goal.returns-then-not-is_asked
returns-then-not-is_asked c =
    let a = c.args in
    refused-told c.nowhere.result a.out.now ∙ ap (λ (why : Refusal). answered (refused (refusal_meant why)) 0 a.out.now) c.nowhere.ensures
    ∙ split-16 a.name.now a.file.now a.out.now (sym c.is_asked.ensures ∙ c.if-not-is_asked.true)

pub returns-in_err-read : goal.returns-in_err-read
returns-in_err-read c =
    let a = c.args in
    let p = err_from_is_err_and c.from_residual.result c.from_residual.ensures.1 in
    rw (p.1, p.2)
    (refused-told _ a.out.now ∙ split-refused a.name.now a.file.now a.out.now (sym c.is_asked.ensures ∙ c.if-not-is_asked.false) _ (sym c.in_err-read.ensures))

pub returns-in_err-fits : goal.returns-in_err-fits
returns-in_err-fits c =
    let a = c.args in
    let p = err_from_is_err_and c.from_residual-in_err-fits.result c.from_residual-in_err-fits.ensures.1 in
    rw (p.1, p.2)
    (refused-told _ a.out.now ∙ not-fitting (split_result a.name.now a.file.now) a.out.now 0 _ c.in_err-fits.ensures
    ∙ split-accepted a.name.now a.file.now a.out.now (sym c.is_asked.ensures ∙ c.if-not-is_asked.false) _ (sym c.in_ok-read.ensures))

pub returns : goal.returns
returns c =
    let a = c.args in
    let fits = room-says _ _ c.in_ok-fits.ensures in
    written (split_result a.name.now a.file.now) a.out.now 0 fits.0 fits.1 c.write.result c.write.new.out c.write.ensures
    ∙ split-accepted a.name.now a.file.now a.out.now (sym c.is_asked.ensures ∙ c.if-not-is_asked.false) _ (sym c.in_ok-read.ensures)
