-- Lists: a property of every element, and lists put together. Assumes nothing.
use Prim.Native.Nat.{◌+◌}
use mathlib.Core.Path.{◌≡◌, refl, sym}
use mathlib.Core.List.{List, [], ◌∷◌, ◌++◌, append_assoc}
use native.Mathlib.Omega.{arith}
use lib.ListN.{length}
use Rattle.rules.specs.Combine.{concat}
use Rattle.laws.specs.LawWords.{All, add_up}

-- ---- a property of every element

module _ {A : Type 0} (P : A → Type 0) where
  pub all_left : (xs ys : List A) → All P (xs ++ ys) → All P xs
  all_left [] ys h = tt
  all_left (x ∷ xs) ys h = (h.0, all_left xs ys h.1)

  pub all_right : (xs ys : List A) → All P (xs ++ ys) → All P ys
  all_right [] ys h = h
  all_right (x ∷ xs) ys h = all_right xs ys h.1

  pub all_both : (xs ys : List A) → All P xs → All P ys → All P (xs ++ ys)
  all_both [] ys h k = k
  all_both (x ∷ xs) ys h k = (h.0, all_both xs ys h.1 k)

  pub all-joined : (xss : List (List A)) → All (All P) xss → All P (concat xss)
  unfolding concat
  all-joined [] h = tt
  all-joined (xs ∷ xss) h = all_both xs (concat xss) h.0 (all-joined xss h.1)

  pub all_from : (Q : A → Type 0) → ((x : A) → Q x → P x) → (xs : List A) → All Q xs → All P xs
  all_from Q f [] h = tt
  all_from Q f (x ∷ xs) h = (f x h.0, all_from Q f xs h.1)

-- ---- lists put together

pub concat-append : {A : Type 0} (xss yss : List (List A)) → concat (xss ++ yss) ≡ concat xss ++ concat yss
unfolding concat
concat-append [] yss = refl
concat-append (xs ∷ xss) yss = rw (concat-append xss yss) (sym (append_assoc xs (concat xss) (concat yss)))

-- one of each is as many as there are
pub add-ones : {A : Type 0} (xs : List A) → add_up (λ x. 1) xs ≡ length xs
unfolding add_up
add-ones [] = refl
add-ones (x ∷ xs) = rw (add-ones xs) (omega arith)
