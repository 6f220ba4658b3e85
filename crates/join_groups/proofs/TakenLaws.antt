-- Where the groups of an accepted file stand ahead, what is taken are those for the name, with the numbers that the rules have of them. Assumes nothing.
use Prim.Native.Nat.{ℕ, ◌+◌, ◌-◌, ◌≤◌, min}
use native.Mathlib.Omega.{arith}
use mathlib.Core.Path.{◌≡◌, refl, sym, ap, ◌∙◌}
use mathlib.Core.Bool.{Bool, true, false, cond}
use mathlib.Core.List.{List, [], ◌∷◌}
use borrow.Author.Tests.{eq-eqb, le-leb}
use lib.ListN.{length, length-append}
use Rattle.rules.specs.Bytes.{Bytes, same_bytes}
use Rattle.rules.specs.Numbers.{magnitudes}
use Rattle.rules.specs.Limits.{most}
use Rattle.rules.specs.Lines.{Record, record_bytes}
use Rattle.rules.specs.Parts.{groups_in, receiver_of}
use Rattle.rules.specs.Combine.{summary_of_all, concat}
use Rattle.rules.specs.Split.{groups_for}
use Rattle.base_quantities.specs.QuantityMeanings.{sum_meant, most_records}
use Rattle.base_quantities.proofs.UnitsLaws.{not-wrapped}
use Rattle.base_numerals.proofs.PutLaws.{put-fits}
use Rattle.laws.specs.LawWords.{All}
use Rattle.laws.proofs.KeptBytes.{bytes-append}
use Rattle.laws.proofs.PartSlices.{size-length}
use Rattle.laws.proofs.CombineSplit.{fewer}
use Rattle.join_groups.specs.GroupsTaken.{groups_taken, total_stated, records_stated, tally_of, fitting_bytes, slice_put}
use Rattle.join_groups.specs.declared.Tally.{Tally}
use Rattle.join_groups.proofs.GroupsAhead.{Stands, Ahead, Tallied, matching, Takes}
use Rattle.join_groups.proofs.GroupRecords.{records-fit}
use Rattle.join_groups.proofs.GroupShapes.{taken-are}
use Rattle.join_groups.proofs.StatedTallies.{AddUp, add-up}

-- what holds of all groups holds of those for a name
all-for : (P : List Record → Type 0) (name : Bytes) (gs : List (List Record)) → All P gs → All P (groups_for name gs)
unfolding groups_for
all-for P name [] a = tt
all-for P name (g ∷ gs) a = either (same_bytes name (receiver_of g)) a.0 (all-for P name gs a.1)
  where
    either : (t : Bool) → P g → All P (groups_for name gs) → All P (cond t (g ∷ groups_for name gs) (groups_for name gs))
    either true p q = (p, q)
    either false p q = q

-- where there is room for all, all of them fit
fitting-all : (gs : List (List Record)) (room : ℕ) → length (record_bytes (concat gs)) ≤ room → fitting_bytes room gs ≡ record_bytes (concat gs)
unfolding fitting_bytes concat record_bytes
fitting-all [] room h = refl
fitting-all (g ∷ gs) room h =
    let b = ap length (bytes-append g (concat gs)) ∙ length-append (record_bytes g) (record_bytes (concat gs)) in
    rw (le-leb (length (record_bytes g)) room (omega (arith, b)), fitting-all gs (room - length (record_bytes g)) (omega (arith, b))) (sym (bytes-append g (concat gs)))

module _ (gs : List (List Record)) (stand : All Stands gs) (small : magnitudes (summary_of_all (concat gs)).sum ≤ most) (short : length (record_bytes (concat gs)) ≤ most_records) where
  abbrev adds : AddUp gs (total_stated gs) (records_stated gs)
  adds = add-up gs stand

  -- nothing wraps, and no count stops
  pub tallied-of : Tallied gs (tally_of gs).groups.0 (tally_of gs).bytes (sum_meant (tally_of gs).total) (tally_of gs).records.0
  unfolding tally_of
  tallied-of =
      let total = total_stated gs in
      let all = (summary_of_all (concat gs)).sum in
      let lines : min (records_stated gs) most_records ≡ records_stated gs = omega (arith, adds.few) in
      rw (not-wrapped total.pluses (omega (arith, adds.small)), not-wrapped total.minuses (omega (arith, adds.small)), lines)
      (record {
        count = adds.count;
        size = refl;
        sum = eq-eqb (total.pluses + all.minuses) (all.pluses + total.minuses) (omega (arith, adds.total));
        lines = adds.records;
        few = adds.few;
      })

-- THE GROUPS TAKEN of bytes that stand as in an accepted file
module _ (name xs : Bytes) (a : Ahead xs) (short : length xs ≤ most_records) where
  abbrev gs : List (List Record)
  gs = matching name xs

  no_longer : length (record_bytes (concat gs)) ≤ length xs
  no_longer =
      let fit = records-fit (concat (groups_in xs)) (a.trailer ∷ []) xs a.reads in
      omega (arith, (fewer 0 name (groups_in xs)).no_longer, size-length (concat (groups_in xs)))

  pub takes : (before : Bytes) (r : Tally) (after : Bytes) → (r ≡ tally_of (groups_taken name xs)) × (after ≡ slice_put (groups_taken name xs) before) → Takes gs (length xs) before r after
  unfolding tally_of slice_put
  takes before r after (e, f) =
      let small : magnitudes (summary_of_all (concat gs)).sum ≤ most = omega (arith, (fewer 0 name (groups_in xs)).no_more, a.bounded) in
      let tally : r ≡ tally_of gs = e ∙ ap tally_of (taken-are name xs a) in
      let size : r.bytes ≡ length (record_bytes (concat gs)) = ap (λ (t : Tally). t.bytes) tally in
      record {
        tallied = rw tally (tallied-of gs (all-for Stands name (groups_in xs) a.groups) small (omega (arith, no_longer)));
        inside = omega (arith, size, no_longer);
        put = λ room.
            put-fits (record_bytes (concat gs)) before r.bytes after room size
            (f ∙ ap (λ (hs : List (List Record)). slice_put hs before) (taken-are name xs a) ∙ rw (fitting-all gs (length before) room));
      }
