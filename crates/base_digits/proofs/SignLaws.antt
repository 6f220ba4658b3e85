-- Signs in front of digits. Assumes nothing.
use Rattle.std.proofs.Common.{◌≡◌, ℕ, suc, ◌-◌, ◌≤◌, Bool, true, false, ◌||◌, eqb, [], ◌∷◌, length, get_or, take, drop, sym, refl, ◌∙◌, arith, take_all, eq-eqb, ne_eqb}
use mathlib.Core.Bool.{and-true, and-false, or-true}
use Rattle.rules.specs.Bytes.{Bytes, all, plus, minus, starts_with}
use Rattle.rules.specs.Numbers.{is_digit, digits, number, without_sign}
use Rattle.rules.specs.Amounts.{unsigned, amount_in}
use Rattle.rules.specs.Grammar.{is_signed, is_unsigned}
use Rattle.base_digits.proofs.DigitTests.{and_left}
use Rattle.base_digits.proofs.DigitStrings.{first-low}

-- ---- the first byte

pub negative-none : (f : Bytes) → length f ≡ 0 → false ≡ starts_with minus f
unfolding starts_with
negative-none [] h = refl
negative-none (b ∷ f) h = absurd (omega arith)

pub negative-first : (f : Bytes) → (length f ≡ 0 → ⊥) → eqb (get_or f 0 0) minus ≡ starts_with minus f
unfolding starts_with
negative-first [] h = absurd (h refl)
negative-first (b ∷ f) h = refl

-- a byte is a plus or a minus
abbrev pub is_sign : ℕ → Bool
is_sign b = eqb b plus || eqb b minus

module _ (b : ℕ) where
  pub plus-is : b ≡ plus → is_sign b ≡ true
  plus-is e = rw (eq-eqb b plus e)

  pub minus_is : b ≡ minus → is_sign b ≡ true
  minus_is e = rw (eq-eqb b minus e) (or-true (eqb b plus))

  pub neither-is : (b ≡ plus → ⊥) → (b ≡ minus → ⊥) → is_sign b ≡ false
  neither-is p m = rw (ne_eqb b plus p, ne_eqb b minus m)

pub sign-none : (f : Bytes) → length f ≡ 0 → f ≡ without_sign f
unfolding without_sign
sign-none [] h = refl
sign-none (b ∷ f) h = absurd (omega arith)

pub sign-cut : (f : Bytes) → (length f ≡ 0 → ⊥) → is_sign (get_or f 0 0) ≡ true → take (length f - 1) (drop 1 f) ≡ without_sign f
unfolding without_sign
sign-cut [] h e = absurd (h refl)
sign-cut (b ∷ f) h e = rw e (take_all (suc (length f) - 1) f (omega arith))

pub sign_kept : (f : Bytes) → (length f ≡ 0 → ⊥) → is_sign (get_or f 0 0) ≡ false → f ≡ without_sign f
unfolding without_sign
sign_kept [] h e = absurd (h refl)
sign_kept (b ∷ f) h e = rw e

-- ---- digits alone have no sign

pub no_minus : (bs : Bytes) → all is_digit bs ≡ true → starts_with minus bs ≡ false
unfolding starts_with
no_minus [] e = refl
no_minus (b ∷ bs) e = ne_eqb b minus (λ h. omega (arith, first-low b bs e))

pub no_sign : (bs : Bytes) → all is_digit bs ≡ true → without_sign bs ≡ bs
unfolding without_sign
no_sign [] e = refl
no_sign (b ∷ bs) e = let low = first-low b bs e in rw (neither-is b (λ h. omega arith) (λ h. omega arith))

-- they are read as unsigned
pub unsigned-digits : (bs : Bytes) → 1 ≤ length bs → all is_digit bs ≡ true → amount_in bs ≡ unsigned (number bs)
unfolding amount_in
unsigned-digits [] h e = absurd (omega arith)
unsigned-digits (b ∷ bs) h e = let low = first-low b bs e in rw (ne_eqb b plus (λ p. omega arith), ne_eqb b minus (λ m. omega arith))

-- ---- signed and unsigned

pub minus-refused : (f : Bytes) → starts_with minus f ≡ true → false ≡ is_unsigned f
unfolding is_unsigned
minus-refused f e = rw e (sym (and-false (digits 1 18 (without_sign f))))

pub minus-absent : (f : Bytes) (r : Bool) → starts_with minus f ≡ false → r ≡ is_signed f → r ≡ is_unsigned f
unfolding is_unsigned is_signed
minus-absent f r e p = rw e (p ∙ sym (and-true (digits 1 18 (without_sign f))))

-- an unsigned number is a signed one
pub unsigned_signed : (f : Bytes) → is_unsigned f ≡ true → is_signed f ≡ true
unfolding is_unsigned is_signed
unsigned_signed f e = and_left (digits 1 18 (without_sign f)) _ e
