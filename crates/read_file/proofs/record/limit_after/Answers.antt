-- `read_file::record::limit_after` meets its contract. Assumes nothing.
use Rattle.std.proofs.Common.{◌≡◌, sym, ◌∙◌}
use Rattle.base_codes.specs.declared.Code.TheVariants.{FileHeader}
use Rattle.base_codes.proofs.SameCodes.{same_codes}
use Rattle.read_file.specs.RecordSteps.{limit_k}
use Rattle.read_file.proofs.record.limit_after.Goals as goal

pub returns : goal.returns
unfolding limit_k
returns c =
    let e = c.eq.ensures ∙ same_codes c.args.code FileHeader in
    sym (rw (sym e ∙ c.if-eq.false))
