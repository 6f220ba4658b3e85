-- Where `join_groups::take_groups` stands in its loop: what is taken so far, and what is ahead, are all that there is to take. Assumes nothing.
use Prim.Native.Nat.{◌+◌, ◌-◌, ◌≤◌}
use mathlib.Core.Path.{◌≡◌}
use lib.ListN.{length, drop}
use Rattle.base_quantities.specs.QuantityMeanings.{sum_meant}
use Rattle.join_groups.specs.GroupsTaken.{groups_taken}
use Rattle.join_groups.proofs.GroupTallies.{Taking}
use Rattle.join_groups.proofs.take_groups.Given as goal

abbrev pub invariant-loop-at : goal.invariant-loop-at
invariant-loop-at l =
    record {
      room : l.o ≤ length l.out;
      few : l.tally.groups.0 + l.initial.at.0 ≤ l.at.0;
      short : l.tally.bytes + l.initial.at.0 ≤ l.at.0;
      inside : l.at.0 ≤ length l.file + (l.initial.at.0 - length l.file);
      taking : Taking (groups_taken l.name (drop l.initial.at.0 l.file)) (groups_taken l.name (drop l.at.0 l.file)) l.initial.out l.tally.groups.0 l.tally.bytes (sum_meant l.tally.total) l.tally.records.0 l.o l.out;
    }

abbrev pub decreases-loop-at : goal.decreases-loop-at
decreases-loop-at l = length l.file - l.at.0
