-- `==` on slices compares as the rules do. Assumes nothing.
use Rattle.std.proofs.Common.{◌≡◌, nat_eq, [], ◌∷◌, ◌&&◌, refl, ap, ◌∙◌}
use Rattle.std.specs.Cmp.Lexicographic.{pointwise}
use Rattle.rules.specs.Bytes.{Bytes, same_bytes}
use Rattle.base_slices.proofs.same_bytes.Goals as goal

each : (a b : Bytes) → pointwise nat_eq a b ≡ same_bytes a b
unfolding same_bytes
each [] [] = refl
each [] (y ∷ ys) = refl
each (x ∷ xs) [] = refl
each (x ∷ xs) (y ∷ ys) = ap (λ t. nat_eq x y && t) (each xs ys)

pub returns : goal.returns
returns c = c.eq.ensures ∙ each c.args.a.now c.args.b.now
