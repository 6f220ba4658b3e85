-- Tests by cases, and what a test that holds says. Assumes nothing.
use mathlib.Core.Path.{◌≡◌, refl}
use mathlib.Core.Bool.{Bool, true, false, not, ◌&&◌}
use mathlib.Core.List.{[], ◌∷◌}
use Prim.Native.Nat.{ℕ}
use lib.Dec.{T, eqb, eqb→eq}
use Rattle.rules.specs.Bytes.{Bytes, same_bytes}

-- a test by cases, with what it says
pub data Known (t : Bool) : Type 0 where
  holds : t ≡ true → Known t
  fails : t ≡ false → Known t

pub known : (t : Bool) → Known t
known true = holds refl
known false = fails refl

pub is_true : (t : Bool) → T t → t ≡ true
is_true true h = refl
is_true false h = absurd h

pub not-false : (t : Bool) → T (not t) → t ≡ false
not-false true h = absurd h
not-false false h = refl

pub both : (s t : Bool) → T s → T t → T (s && t)
both true t h k = k
both false t h k = h

pub and_left : (s t : Bool) → T (s && t) → T s
and_left true t h = tt
and_left false t h = h

pub and_right : (s t : Bool) → T (s && t) → T t
and_right true t h = h
and_right false t h = absurd h

-- numbers and bytes that test as the same are the same
pub true-eq : (m n : ℕ) → eqb m n ≡ true → m ≡ n
true-eq m n e = eqb→eq m n (rw e tt)

pub same-eq : (bs cs : Bytes) → T (same_bytes bs cs) → bs ≡ cs
unfolding same_bytes
same-eq [] [] h = refl
same-eq [] (c ∷ cs) h = absurd h
same-eq (b ∷ bs) [] h = absurd h
same-eq (b ∷ bs) (c ∷ cs) h = rw (eqb→eq b c (and_left (eqb b c) (same_bytes bs cs) h), same-eq bs cs (and_right (eqb b c) (same_bytes bs cs) h))
