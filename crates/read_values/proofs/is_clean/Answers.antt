-- `is_clean`: a test of each byte in turn. Assumes nothing.
use Rattle.std.proofs.Common.{rules, tests, refl, ◌&&◌, ◌∙◌}
use Rattle.std.proofs.lemmas.Iterator.{YieldsList-from_slice}
use Rattle.std.proofs.lemmas.Iterator.Search.{all_from_yields_List}
use Rattle.std.proofs.lemmas.List.Recursion.{same_from_clauses}
use Rattle.std.specs.List.{list_all}
use Rattle.rules.specs.Bytes.{all, in_field}
use Rattle.read_values.proofs.is_clean.Goals as goal

pub returns : goal.returns
unfolding all
returns c =
    let e = all_from_yields_List in_field _ _ _ c.all.ensures.ran (YieldsList-from_slice c.args.f.now cc) (λ x b q k. search (rules, tests)) in
    e ∙ same_from_clauses (list_all in_field) (all in_field) (λ x r. in_field x && r) refl (λ _ _. refl) (λ _ _. refl) c.args.f.now
