-- A promise that is an equation of meanings leaves one answer. Assumes nothing.
use mathlib.Core.Path.{◌≡◌, sym, ap, ◌∙◌}

-- where an answer can be had back from its meaning, two answers with the promised meaning are one and the same
pub one_answer : {A B : Type 0} (meant : A → B) (back : B → A) → ((x : A) → back (meant x) ≡ x)
    → (promised : B) (x y : A) → meant x ≡ promised → meant y ≡ promised → x ≡ y
one_answer meant back same promised x y p q = sym (same x) ∙ (ap back (p ∙ sym q) ∙ same y)
