-- Records cut into parts: nothing is lost. Assumes nothing.
use mathlib.Core.Path.{◌≡◌}
use mathlib.Core.Bool.{Bool, true, not, ◌&&◌}
use mathlib.Core.List.{List, [], ◌∷◌, ◌++◌}
use lib.Dec.{T}
use Rattle.rules.specs.Lines.{Code, Record}
use Rattle.rules.specs.Parts.{heads, Parts, cut_at}
use Rattle.rules.specs.Combine.{concat}
use Rattle.rules.proofs.Tests.{Known, holds, fails, known, is_true, not-false, and_left, and_right}

-- no record of this code
unfoldable pub none_heads : Code → List Record → Bool
none_heads d [] = true
none_heads d (r ∷ rs) = not (heads d r) && none_heads d rs

-- nothing is lost where records are cut into parts, one of code d last and none before
abbrev whole : Parts → List Record
whole p = p.waiting ++ concat p.parts

parts-step : (c d : Code) (r : Record) (rs qs : List Record) → whole (cut_at c d qs) ≡ rs → T (not (heads d r)) → Known (heads c r)
    → whole (cut_at c d (r ∷ qs)) ≡ r ∷ rs
unfolding cut_at concat
parts-step c d r rs qs ih n (holds e) = rw (e, ih)
parts-step c d r rs qs ih n (fails e) = rw (e, not-false (heads d r) n, ih)

pub parts-concat : (c d : Code) (rs : List Record) (t : Record) → T (heads d t) → T (not (heads c t)) → T (none_heads d rs)
    → whole (cut_at c d (rs ++ (t ∷ []))) ≡ rs
unfolding cut_at concat none_heads
parts-concat c d [] t h k n = rw (not-false (heads c t) k, is_true (heads d t) h)
parts-concat c d (r ∷ rs) t h k n =
    parts-step c d r rs (rs ++ (t ∷ [])) (parts-concat c d rs t h k (and_right (not (heads d r)) (none_heads d rs) n))
    (and_left (not (heads d r)) (none_heads d rs) n) (known (heads c r))
