-- What a fine outcome says of the checks before it. Assumes nothing.
use Prim.Native.Nat.{ℕ, ◌+◌}
use mathlib.Core.Path.{◌≡◌, refl}
use mathlib.Core.Bool.{Bool, true, false}
use mathlib.Core.Option.{Option, none, some}
use native.Mathlib.Omega.{arith}
use lib.Dec.{T}
use Rattle.rules.specs.Outcome.{Refusal, Outcome, refused, fine, ◌>>=◌, ◌>>◌, check, or_refused, moved}

pub refused-fine : {A : Type 0} (why : Refusal) (a : A) → refused why ≡ fine a → ⊥
refused-fine why a h = let z : ◌≡◌ {A = ℕ} 0 1 = cc in omega arith

pub fine-same : {A : Type 0} (a b : A) → fine a ≡ fine b → a ≡ b
fine-same a b h = cc

-- the first was fine, and so was the rest after it
pub from-bind {ℓ} : {A B : Type 0} {P : Type ℓ} (o : Outcome A) (f : A → Outcome B) (b : B) → (o >>= f) ≡ fine b → ((a : A) → o ≡ fine a → f a ≡ fine b → P) → P
from-bind (refused why) f b h k = absurd (refused-fine why b h)
from-bind (fine a) f b h k = k a refl h

pub then-fine : {A B : Type 0} (o : Outcome A) (r : Outcome B) (b : B) → (o >> r) ≡ fine b → r ≡ fine b
then-fine (refused why) r b h = absurd (refused-fine why b h)
then-fine (fine a) r b h = h

pub first_fine : {B : Type 0} (o : Outcome (Unit {0})) (r : Outcome B) (b : B) → (o >> r) ≡ fine b → o ≡ fine tt
first_fine (refused why) r b h = absurd (refused-fine why b h)
first_fine (fine a) r b h = refl

-- a check is fine exactly where its test holds
pub check-holds : (t : Bool) (n p : ℕ) → check t n p ≡ fine tt → T t
check-holds true n p h = tt
check-holds false n p h = absurd (refused-fine _ tt h)

pub check-true : (t : Bool) (n p : ℕ) → T t → check t n p ≡ fine tt
check-true true n p h = refl
check-true false n p h = absurd h

pub check-fine : {A : Type 0} (t : Bool) (n p : ℕ) (r : Outcome A) (a : A) → (check t n p >> r) ≡ fine a → T t
check-fine true n p r a h = tt
check-fine false n p r a h = absurd (refused-fine _ a h)

pub moved-fine : {A : Type 0} (p : ℕ) (o : Outcome A) (a : A) → moved p o ≡ fine a → o ≡ fine a
unfolding moved
moved-fine p (refused why) a h = absurd (refused-fine _ a h)
moved-fine p (fine b) a h = h

pub or-fine : {A : Type 0} (o : Option A) (n p : ℕ) (a : A) → or_refused o n p ≡ fine a → o ≡ some a
or-fine none n p a h = absurd (refused-fine _ a h)
or-fine (some b) n p a h = cc
