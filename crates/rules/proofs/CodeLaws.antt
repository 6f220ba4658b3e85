-- The uniform list: its rule, at all thousand codes by one computed test and one lemma; and that it lists no customised code and no number over 999.
-- Assumes nothing.
use mathlib.Core.Path.{◌≡◌, refl, sym, ◌∙◌, subst}
use mathlib.Core.Logic.{⊎_elim}
use mathlib.Core.Bool.{Bool, true, false, cond, not, ◌&&◌}
use mathlib.Core.List.{List, [], ◌∷◌}
use Prim.Native.Nat.{ℕ, zero, suc, ◌≤◌, ◌<◌}
use native.Mathlib.Nat.{eq-or-lt_of_le, le_of_suc-le-suc, not-suc-le-zero}
use native.Mathlib.Omega.{arith}
use lib.Dec.{T, leb, eqb, leb→le}
use Rattle.rules.specs.TypeCodes.{class_of}
use Rattle.rules.specs.CodeList.{Row, unlisted, uniform_list, entry_in, entry_of}
use Rattle.rules.specs.CodeRule.{departures, member, departs}
use Rattle.rules.proofs.Tests.{Known, holds, fails, known, and_left, and_right, true-eq}

-- ---- a test at each number below another holds at any of them

unfoldable pub at_each : ℕ → (ℕ → Bool) → Bool
at_each zero test = true
at_each (suc n) test = test n && at_each n test

pub at-any : (n : ℕ) (test : ℕ → Bool) → T (at_each n test) → (k : ℕ) → k < n → T (test k)
unfolding at_each
at-any zero test h k below = absurd (not-suc-le-zero below)
at-any (suc n) test h k below =
    ⊎_elim
    (λ e. subst (λ (m : ℕ). T (test m)) (sym e) (and_left (test n) (at_each n test) h))
    (λ less. at-any n test (and_right (test n) (at_each n test) h) k less)
    (eq-or-lt_of_le (le_of_suc-le-suc below))

-- ---- the rule

-- both hold, or both don't
abbrev pub alike : Bool → Bool → Bool
alike true t = t
alike false t = not t

alike-eq : (s t : Bool) → T (alike s t) → s ≡ t
alike-eq true true h = refl
alike-eq true false h = absurd h
alike-eq false true h = absurd h
alike-eq false false h = refl

unfoldable pub ruled : ℕ → Bool
ruled n = alike (departs n) (member n departures)

pub all-ruled : T (at_each 1000 ruled)
unfolding at_each ruled entry_in entry_of class_of member
all-ruled = tt

-- a code of the table departs from the ranges exactly if the rule names it
pub code-rule : (n : ℕ) → n < 1000 → departs n ≡ member n departures
unfolding ruled
code-rule n below = alike-eq (departs n) (member n departures) (at-any 1000 ruled all-ruled n below)

-- ---- past the list

-- no line's code is over this one
unfoldable pub up_to : ℕ → List Row → Bool
up_to last [] = true
up_to last (r ∷ rs) = leb r.code last && up_to last rs

pub list-to-890 : T (up_to 890 uniform_list)
unfolding up_to
list-to-890 = tt

module _ (last n : ℕ) (over : last < n) where
  not-this : (r : Row) (rs : List Row) → T (leb r.code last) → entry_in (r ∷ rs) n ≡ entry_in rs n
  unfolding entry_in
  not-this r rs small = go (known (eqb r.code n))
    where
      go : Known (eqb r.code n) → cond (eqb r.code n) r.entry (entry_in rs n) ≡ entry_in rs n
      go (holds e) = let same = true-eq r.code n e in let most = leb→le r.code last small in absurd (omega arith)
      go (fails e) = rw e refl

  none_in : (rs : List Row) → T (up_to last rs) → entry_in rs n ≡ unlisted
  unfolding entry_in up_to
  none_in [] small = refl
  none_in (r ∷ rs) small =
      not-this r rs (and_left (leb r.code last) (up_to last rs) small)
      ∙ none_in rs (and_right (leb r.code last) (up_to last rs) small)

-- no customised code is listed, nor any number after them
pub customised-unlisted : (n : ℕ) → 900 ≤ n → entry_of n ≡ unlisted
unfolding entry_of
customised-unlisted n from = none_in 890 n (omega arith) uniform_list list-to-890

-- no number over 999 is listed
pub over-unlisted : (n : ℕ) → 999 < n → entry_of n ≡ unlisted
over-unlisted n over = customised-unlisted n (omega arith)
