-- What is kept, by the cases of the code. Assumes nothing.
use Prim.Native.Nat.{ℕ, ◌+◌, ◌≤◌, ◌<◌}
use mathlib.Core.Path.{◌≡◌, refl, ap, sym, ◌∙◌}
use mathlib.Core.Bool.{true, false, not}
use native.Mathlib.Omega.{arith}
use borrow.Author.Tests.{le-leb, lt-leb}
use Rattle.std.specs.Prelude.{Some}
use Rattle.std.specs.Option.{is_some}
use Rattle.rules.specs.Bytes.{Bytes}
use Rattle.rules.specs.Numbers.{Sum, ◌⊕◌, magnitudes}
use Rattle.rules.specs.Amounts.{Amount, empty, unsigned, with_plus, with_minus, magnitude_of, amount_adds}
use Rattle.rules.specs.Limits.{most}
use Rattle.base_quantities.specs.QuantityMeanings.{sum_meant, units_of, wrapped_sum}
use Rattle.base_quantities.specs.declared.Units.{Units}
use Rattle.base_quantities.proofs.UnitsLaws.{sum-not-wrapped}
use Rattle.read_wanted.specs.Wants.{Purpose, for_amount, for_total, for_count, for_records, for_length, for_nothing, same_purpose}
use Rattle.read_kept.specs.declared.Kept.{Kept}
use Rattle.read_kept.specs.KeepFields.{place, Amounts, add_to, keep_with, keep_read}

-- ---- an amount

amount-magnitude : (a : Amount) → magnitudes (amount_adds a) ≡ magnitude_of a
amount-magnitude empty = refl
amount-magnitude (unsigned n) = omega arith
amount-magnitude (with_plus n) = omega arith
amount-magnitude (with_minus n) = omega arith

module _ (m : ℕ) (x : Amounts) (p : ℕ) (a : Amount) where
  pub add-over : is_some x.past ≡ true → x ≡ add_to m x p a
  unfolding add_to
  add-over h = rw h

  module _ (h : is_some x.past ≡ false) where
    pub add-past : most < m + magnitudes (sum_meant x.sum) + magnitude_of a → record { sum = x.sum; past = Some (place p) } ≡ add_to m x p a
    unfolding add_to
    add-past g = rw (h, lt-leb (m + magnitudes (sum_meant x.sum ⊕ amount_adds a)) most (omega (arith, amount-magnitude a)))

    module _ (g : m + magnitudes (sum_meant x.sum) + magnitude_of a ≤ most) where
      add-fits : add_to m x p a ≡ record { sum = units_of (sum_meant x.sum ⊕ amount_adds a); past = x.past }
      unfolding add_to
      add-fits = rw (h, le-leb (m + magnitudes (sum_meant x.sum ⊕ amount_adds a)) most (omega (arith, amount-magnitude a)))

      -- the units that were added are the rules' sum: neither side wraps
      pub add-more : (u v : Units) → sum_meant v ≡ amount_adds a → sum_meant u ≡ wrapped_sum (sum_meant x.sum ⊕ sum_meant v)
          → record { sum = u; past = x.past } ≡ add_to m x p a
      add-more u v is-v is-u =
          let sum : sum_meant u ≡ sum_meant x.sum ⊕ amount_adds a =
          is-u ∙ ap (λ (b : Sum). wrapped_sum (sum_meant x.sum ⊕ b)) is-v ∙ sum-not-wrapped (sum_meant x.sum) (amount_adds a) (omega (arith, amount-magnitude a)) (omega (arith, amount-magnitude a)) in
          ap (λ (b : Sum). record { sum = units_of b; past = x.past }) sum ∙ sym add-fits

-- ---- a field that is kept for nothing

not_so : true ≡ false → ⊥
not_so h = let z : ◌≡◌ {A = ℕ} 0 1 = cc in omega arith

pub kept-for-nothing : (u : Purpose) (k : Kept) (p : ℕ) (bs : Bytes) → not (same_purpose for_nothing u) ≡ false → k ≡ keep_read u k p bs
unfolding keep_read keep_with
kept-for-nothing for_amount k p bs h = absurd (not_so h)
kept-for-nothing for_total k p bs h = absurd (not_so h)
kept-for-nothing for_count k p bs h = absurd (not_so h)
kept-for-nothing for_records k p bs h = absurd (not_so h)
kept-for-nothing for_length k p bs h = absurd (not_so h)
kept-for-nothing for_nothing k p bs h = refl
