-- What is kept stays within its bounds. Assumes nothing.
use Prim.Native.Nat.{ℕ, ◌+◌, ◌≤◌, zero-le}
use mathlib.Core.Path.{refl}
use mathlib.Core.Bool.{Bool, true, false}
use native.Mathlib.Omega.{arith}
use lib.Dec.{leb}
use Rattle.std.specs.Prelude.{IfSome}
use Rattle.std.specs.Option.{is_some}
use borrow.Author.Tests.{leb-true}
use Rattle.rules.specs.Bytes.{Bytes}
use Rattle.rules.specs.Numbers.{◌⊕◌, magnitudes}
use Rattle.rules.specs.Amounts.{Amount, amount_adds}
use Rattle.rules.specs.Limits.{most}
use Rattle.rules.proofs.Tests.{Known, holds, fails, known}
use Rattle.base_quantities.specs.QuantityMeanings.{sum_meant}
use Rattle.read_wanted.specs.Wants.{Purpose, for_amount, for_total, for_count, for_records, same_purpose}
use Rattle.read_kept.specs.declared.Kept.{Kept}
use Rattle.read_kept.specs.KeepFields.{nothing_kept, first_of, Amounts, amounts_of, add_to, add_if, keep_with, keep_read, Within}

pub nothing-within : (n m : ℕ) → Within n m (nothing_kept m)
nothing-within n m =
    record { before = refl; sum = λ h. omega arith; past = tt; total = zero-le; count = zero-le; records = zero-le }

module _ (n : ℕ) (p : ℕ) (at : p ≤ n) where
  -- a figure's place
  first-within : {A : Type 0} (at_of : A → ℕ) (t seen : Bool) (old new : A) → at_of old ≤ n → at_of new ≤ n → at_of (first_of t seen old new) ≤ n
  first-within at_of true true old new h l = h
  first-within at_of true false old new h l = l
  first-within at_of false seen old new h l = h

  -- the sum with magnitudes m before it, and the place of the amount that passed
  abbrev Fits : ℕ → Amounts → Type 0
  Fits m x = (m ≤ most → m + magnitudes (sum_meant x.sum) ≤ most) × IfSome x.past (λ q. q.0 ≤ n)

  amounts-within : (t : Bool) (m : ℕ) (x : Amounts) (a : Amount) → Fits m x → Fits m (add_if t m x p a)
  unfolding add_to
  amounts-within true m x a h = go (known (is_some x.past)) (known (leb (m + magnitudes (sum_meant x.sum ⊕ amount_adds a)) most))
    where
      go : Known (is_some x.past) → Known (leb (m + magnitudes (sum_meant x.sum ⊕ amount_adds a)) most) → Fits m (add_to m x p a)
      go (holds o) l = rw o h
      go (fails o) (holds l) = rw (o, l) (λ _. leb-true (m + magnitudes (sum_meant x.sum ⊕ amount_adds a)) most l, h.1)
      go (fails o) (fails l) = rw (o, l) (h.0, at)
  amounts-within false m x a h = h

  keep-within : (m : ℕ) (u : Purpose) (k : Kept) (g : Bool) (a : Amount) (i : ℕ) → Within n m k → Within n m (keep_with u k p g a i)
  unfolding keep_with
  keep-within m u k g a i w =
      let x = amounts-within (same_purpose for_amount u) k.before.0 (amounts_of k) a (rw w.before w.sum, w.past) in
      record {
        before = w.before;
        sum = λ h. let y = x.0 (omega arith) in omega arith;
        past = x.1;
        total = first-within (λ x. x.at.0) (same_purpose for_total u) k.total_seen k.total _ w.total at;
        count = first-within (λ x. x.at.0) (same_purpose for_count u) k.count_seen k.count _ w.count at;
        records = first-within (λ x. x.at.0) (same_purpose for_records u) k.records_seen k.records _ w.records at;
      }

-- a field at p, as the code reads it
pub read-within : (n m : ℕ) (u : Purpose) (k : Kept) (p : ℕ) (bs : Bytes) → p ≤ n → Within n m k → Within n m (keep_read u k p bs)
unfolding keep_read
read-within n m u k p bs at w = keep-within n p at m u k _ _ _ w
