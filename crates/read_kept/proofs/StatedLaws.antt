-- What is kept of a trailer's figure or of L is what the first field of its kind gives. Assumes nothing.
use mathlib.Core.Path.{◌≡◌, refl, ◌∙◌}
use mathlib.Core.Bool.{Bool, true, false, cond, ◌||◌}
use mathlib.Core.List.{List, [], ◌∷◌}
use Rattle.rules.specs.Grammar.{Kind, same_kind}
use Rattle.rules.specs.Records.{Field, the}
use Rattle.rules.proofs.Tests.{Known, holds, fails, known}
use Rattle.read_wanted.specs.Wants.{Purpose, same_purpose, purpose}
use Rattle.read_kept.specs.declared.Kept.{Kept}
use Rattle.read_kept.specs.KeepFields.{first_of, keep_field, keep_all}

-- what is kept for a purpose, whether its field was seen, what a field of its kind gives
module _ {A : Type 0} (get : Kept → A) (seen : Kept → Bool) (gives : Field → A) (one : Purpose) (kd : Kind)
    (same : (j : Kind) → same_kind kd j ≡ same_purpose one (purpose j))
    (gets : (k : Kept) (f : Field) → get (keep_field k f) ≡ first_of (same_purpose one (purpose f.kind)) (seen k) (get k) (gives f))
    (sees : (k : Kept) (f : Field) → seen (keep_field k f) ≡ (same_purpose one (purpose f.kind) || seen k)) where
  -- once seen, it stays
  seen_one : (f : Field) (k : Kept) → seen k ≡ true → Known (same_purpose one (purpose f.kind)) → (get (keep_field k f) ≡ get k) × (seen (keep_field k f) ≡ true)
  seen_one f k h (holds e) = (gets k f ∙ rw (e, h), sees k f ∙ rw e)
  seen_one f k h (fails e) = (gets k f ∙ rw e, sees k f ∙ rw e h)

  seen-stays : (fs : List Field) (k : Kept) → seen k ≡ true → get (keep_all k fs) ≡ get k
  unfolding keep_all
  seen-stays [] k h = refl
  seen-stays (f ∷ fs) k h =
      let o = seen_one f k h (known (same_purpose one (purpose f.kind))) in
      seen-stays fs (keep_field k f) o.1 ∙ o.0

  first_step : (f : Field) (fs : List Field) (k : Kept) → seen k ≡ false → get k ≡ gives (the kd [])
      → (seen (keep_field k f) ≡ false → get (keep_field k f) ≡ gives (the kd []) → get (keep_all (keep_field k f) fs) ≡ gives (the kd fs))
      → Known (same_purpose one (purpose f.kind)) → get (keep_all (keep_field k f) fs) ≡ gives (cond (same_kind kd f.kind) f (the kd fs))
  first_step f fs k h n ih (holds e) = seen-stays fs (keep_field k f) (sees k f ∙ rw e) ∙ gets k f ∙ rw (same f.kind, e, h)
  first_step f fs k h n ih (fails e) = rw (same f.kind, e) (ih (sees k f ∙ rw e h) (gets k f ∙ rw e n))

  pub first-is : (fs : List Field) (k : Kept) → seen k ≡ false → get k ≡ gives (the kd []) → get (keep_all k fs) ≡ gives (the kd fs)
  unfolding keep_all the
  first-is [] k h n = n
  first-is (f ∷ fs) k h n = first_step f fs k h n (first-is fs (keep_field k f)) (known (same_purpose one (purpose f.kind)))
