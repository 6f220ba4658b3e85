-- `join_split::is_asked` meets its contract. Assumes nothing.
use mathlib.Core.Path.{sym, ◌∙◌}
use Rattle.join_split.proofs.NameLaws.{not-name, name-clean}
use Rattle.join_split.proofs.is_asked.Goals as goal

pub returns-then-is_name : goal.returns-then-is_name
returns-then-is_name c = c.is_clean.ensures ∙ sym (name-clean c.args.name.now (sym c.is_name.ensures ∙ c.if-is_name.true))

pub returns-else-is_name : goal.returns-else-is_name
returns-else-is_name c = c.if-is_name.false ∙ not-name c.args.name.now (sym c.is_name.ensures ∙ c.if-is_name.false)
