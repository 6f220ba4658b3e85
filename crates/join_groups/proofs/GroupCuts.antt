-- Records cut after each 98 and each 99: the first group, and what stands after it. Assumes nothing.
use mathlib.Core.Path.{◌≡◌, refl, ap}
use mathlib.Core.Bool.{true, false, cond}
use mathlib.Core.List.{List, [], ◌∷◌, ◌++◌}
use Rattle.rules.specs.Lines.{group_header, Record}
use Rattle.rules.specs.Parts.{heads}
use Rattle.rules.proofs.Tests.{Known, holds, fails, known}
use Rattle.laws.specs.LawWords.{All}
use Rattle.join_groups.specs.GroupsTaken.{ends, record_before, cut_after, first_in, last_in, in_front}

-- no group ends with this record
abbrev pub GoesOn : Record → Type 0
GoesOn r = ends r ≡ false

-- ---- the first record that ends a group, if there is one

pub data FirstEnd (rs : List Record) : Type 0 where
  ended : (before : List Record) (last : Record) (others : List Record) → rs ≡ before ++ (last ∷ others) → All GoesOn before → ends last ≡ true → FirstEnd rs
  unended : All GoesOn rs → FirstEnd rs

end_step : (r : Record) (rs : List Record) → Known (ends r) → FirstEnd rs → FirstEnd (r ∷ rs)
end_step r rs (holds e) f = ended [] r rs refl tt e
end_step r rs (fails e) (ended before last others whole a h) = ended (r ∷ before) last others (ap (λ (qs : List Record). r ∷ qs) whole) (e, a) h
end_step r rs (fails e) (unended a) = unended (e, a)

pub first-end : (rs : List Record) → FirstEnd rs
first-end [] = unended tt
first-end (r ∷ rs) = end_step r rs (known (ends r)) (first-end rs)

-- ---- the first group

module _ (last : Record) (h : ends last ≡ true) where
  pub cut-ended : (before others : List Record) → All GoesOn before → cut_after (before ++ (last ∷ others)) ≡ (before ++ (last ∷ [])) ∷ cut_after others
  unfolding cut_after record_before
  cut-ended [] others a = rw h
  cut-ended (r ∷ rs) others a = rw (a.0, cut-ended rs others a.1)

  pub last-ended : (before : List Record) → All GoesOn before → last_in (before ++ (last ∷ [])) ≡ last
  unfolding last_in
  last-ended [] a = rw h
  last-ended (r ∷ rs) a = rw (a.0, last-ended rs a.1)

pub cut-unended : (r : Record) (rs : List Record) → All GoesOn (r ∷ rs) → cut_after (r ∷ rs) ≡ (r ∷ rs) ∷ []
unfolding cut_after record_before
cut-unended r [] a = rw a.0
cut-unended r (q ∷ rs) a = rw (a.0, cut-unended q rs a.1)

pub last-unended : (rs : List Record) → All GoesOn rs → last_in rs ≡ []
unfolding last_in
last-unended [] a = refl
last-unended (r ∷ rs) a = rw (a.0, last-unended rs a.1)

-- the first record is the first group's
pub first-same : (before : List Record) (last : Record) (others : List Record) → first_in (before ++ (last ∷ [])) ≡ first_in (before ++ (last ∷ others))
unfolding first_in
first-same [] last others = refl
first-same (r ∷ rs) last others = refl

-- ---- no group in front

other-first : (r : Record) (gs : List (List Record)) → heads group_header r ≡ false → in_front (record_before r gs) ≡ []
unfolding in_front record_before first_in
other-first r [] h = rw h
other-first r (g ∷ gs) h = rw h

other_step : (r : Record) (gs : List (List Record)) → heads group_header r ≡ false → Known (ends r) → in_front (cond (ends r) ((r ∷ []) ∷ gs) (record_before r gs)) ≡ []
unfolding in_front first_in
other_step r gs h (holds e) = rw (e, h)
other_step r gs h (fails e) = rw e (other-first r gs h)

pub none-in-front : (rs : List Record) → heads group_header (first_in rs) ≡ false → in_front (cut_after rs) ≡ []
unfolding in_front cut_after first_in
none-in-front [] h = refl
none-in-front (r ∷ rs) h = other_step r (cut_after rs) h (known (ends r))
