-- Records one after the other: a run of two lists, and a run at another place. Assumes nothing.
use mathlib.Core.Path.{◌≡◌, refl, ◌∙◌}
use mathlib.Core.List.{List, [], ◌∷◌, ◌++◌}
use Prim.Native.Nat.{ℕ, ◌+◌, ◌≤◌}
use native.Mathlib.Nat.{add-zero, add_assoc}
use native.Mathlib.Omega.{arith}
use lib.Dec.{T, leb, le→leb}
use Rattle.rules.specs.Outcome.{Outcome, refused, fine, ◌>>=◌, moved}
use Rattle.rules.specs.Lines.{Record, record_size}
use Rattle.rules.specs.Numbers.{Sum, magnitudes, within_most}
use Rattle.rules.specs.Limits.{most}
use Rattle.rules.specs.Verdict.{State, step, run}
use Rattle.rules.specs.Parts.{size_of_all}
use Rattle.rules.proofs.Tests.{both}
use Rattle.rules.proofs.Binds.{refused-fine}

-- ---- in two runs

bind-run : (o : Outcome State) (q e : ℕ) (rs qs : List Record) → ((t : State) → run q t (rs ++ qs) ≡ run q t rs >>= (λ u. run e u qs))
    → (o >>= λ t. run q t (rs ++ qs)) ≡ (o >>= λ t. run q t rs) >>= (λ u. run e u qs)
bind-run (refused why) q e rs qs ih = refl
bind-run (fine t) q e rs qs ih = ih t

pub run-append : (p : ℕ) (s : State) (rs qs : List Record) → run p s (rs ++ qs) ≡ run p s rs >>= (λ t. run (p + size_of_all rs) t qs)
unfolding run size_of_all
run-append p s [] qs = rw add-zero
run-append p s (r ∷ rs) qs =
    bind-run (moved p (step s r)) (p + record_size r) (p + (record_size r + size_of_all rs)) rs qs
    (λ t. run-append (p + record_size r) t rs qs ∙ rw add_assoc)

-- records mean the same wherever they stand: what is accepted at one place is accepted at every other, with the same state
moved-step : (p q : ℕ) (o : Outcome State) (m n : ℕ) (rs : List Record) (t : State)
    → ((u : State) → run m u rs ≡ fine t → run n u rs ≡ fine t)
    → (moved p o >>= λ u. run m u rs) ≡ fine t → (moved q o >>= λ u. run n u rs) ≡ fine t
unfolding moved
moved-step p q (refused why) m n rs t ih h = absurd (refused-fine _ t h)
moved-step p q (fine u) m n rs t ih h = ih u h

pub run-anywhere : (p q : ℕ) (s t : State) (rs : List Record) → run p s rs ≡ fine t → run q s rs ≡ fine t
unfolding run
run-anywhere p q s t [] h = h
run-anywhere p q s t (r ∷ rs) h =
    moved-step p q (step s r) (p + record_size r) (q + record_size r) rs t (λ u. run-anywhere (p + record_size r) (q + record_size r) u t rs) h

-- ---- 14 can't be given: the bound on magnitudes keeps each sum in range

pub within : (a : Sum) → magnitudes a ≤ most → T (within_most a)
within a h =
    both (leb a.pluses (most + a.minuses)) (leb a.minuses (most + a.pluses))
    (le→leb a.pluses (most + a.minuses) (omega arith)) (le→leb a.minuses (most + a.pluses) (omega arith))
