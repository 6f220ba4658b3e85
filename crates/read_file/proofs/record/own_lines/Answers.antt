-- `read_file::record::own_lines` meets its contract. Assumes nothing.
use Rattle.std.proofs.Common.{◌≡◌, sym, ◌∙◌}
use Rattle.base_codes.specs.declared.Code.TheVariants.{FileHeader}
use Rattle.base_codes.proofs.SameCodes.{same_codes}
use Rattle.rules.specs.Verdict.{own_lines}
use Rattle.read_file.proofs.record.own_lines.Goals as goal

pub returns : goal.returns
unfolding own_lines
returns c = (sym (rw (sym (same_codes c.args.code FileHeader) ∙ sym c.eq.ensures ∙ c.if-eq.false)), tt)
