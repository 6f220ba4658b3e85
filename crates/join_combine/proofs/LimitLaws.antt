-- Lines held against a limit. Assumes nothing.
use Prim.Native.Nat.{ℕ, ◌+◌, ◌≤◌}
use Rattle.std.specs.Prelude.{Result, Ok, Err, is_ok}
use native.Mathlib.Omega.{arith}
use mathlib.Core.Path.{◌≡◌, refl, sym, ◌∙◌}
use mathlib.Core.Bool.{true, false}
use mathlib.Core.List.{List, [], ◌∷◌}
use lib.Dec.{T, leb, leb→le, le→leb}
use lib.ListN.{length}
use Rattle.rules.specs.Outcome.{Refusal, refused, fine, check}
use Rattle.rules.specs.Lines.{Line, size_of}
use Rattle.rules.specs.Verdict.{not_longer, none_longer}
use Rattle.rules.specs.Combine.{lines_within}
use Rattle.rules.proofs.Tests.{Known, holds, fails, known, is_true, both, and_left, and_right}
use Rattle.base_refusals.specs.declared.Refusal as declared
use Rattle.base_refusals.specs.RefusalMeaning.{refusal_meant}
use Rattle.read_line_checks.specs.LineChecks.{checked_of}
use Rattle.rules.proofs.Binds.{refused-fine, from-bind, check-holds}

-- lines within a limit are within a higher one
pub within_more : (low limit : ℕ) → low ≤ limit → (ls : List Line) → T (lines_within low ls) → T (lines_within limit ls)
unfolding lines_within
within_more low limit h [] w = tt
within_more low limit h (l ∷ ls) w =
    let fits = leb→le (length l.body) low (and_left (leb (length l.body) low) (lines_within low ls) w) in
    both (leb (length l.body) limit) (lines_within limit ls) (le→leb (length l.body) limit (omega arith))
    (within_more low limit h ls (and_right (leb (length l.body) low) (lines_within low ls) w))

-- 3 is given for no line exactly where all are within the limit
module _ (limit : ℕ) where
  pub none_within : (p : ℕ) (ls : List Line) → none_longer p limit ls ≡ fine tt → true ≡ lines_within limit ls
  unfolding none_longer not_longer lines_within
  none_within p [] h = refl
  none_within p (l ∷ ls) h =
      from-bind (check (leb (length l.body) limit) 3 (p + limit)) _ tt h (λ u first rest.
      rw (is_true (leb (length l.body) limit) (check-holds (leb (length l.body) limit) 3 (p + limit) first)) (none_within (p + size_of l) ls rest))

  within_none : (p : ℕ) (ls : List Line) → T (lines_within limit ls) → none_longer p limit ls ≡ fine tt
  unfolding none_longer not_longer lines_within
  within_none p [] w = refl
  within_none p (l ∷ ls) w =
      let fits = leb (length l.body) limit in
      rw (is_true fits (and_left fits (lines_within limit ls) w)) (within_none (p + size_of l) ls (and_right fits (lines_within limit ls) w))

  pub none_over : (p : ℕ) (ls : List Line) (why : Refusal) → none_longer p limit ls ≡ refused why → false ≡ lines_within limit ls
  none_over p ls why h = by (known (lines_within limit ls))
    where
      by : Known (lines_within limit ls) → false ≡ lines_within limit ls
      by (holds e) = absurd (refused-fine _ tt (sym h ∙ within_none p ls (rw e tt)))
      by (fails e) = sym e

-- as the code tells it
pub none-told : (limit : ℕ) (ls : List Line) (r : Result (Unit {0}) declared.Refusal) → checked_of r ≡ none_longer 0 limit ls → is_ok r ≡ lines_within limit ls
none-told limit ls (Ok done) e = none_within limit 0 ls (sym e)
none-told limit ls (Err why) e = none_over limit 0 ls (refusal_meant why) (sym e)
