-- `join_split::Asked::take_rest` meets its contract. Assumes nothing.
use Prim.Native.Nat.{ℕ, ◌+◌, ◌≤◌}
use native.Mathlib.Omega.{arith}
use mathlib.Core.Path.{◌≡◌, ap, subst, ◌∙◌}
use lib.ListN.{length, drop, length-take, length-drop}
use Rattle.rules.specs.Bytes.{Bytes}
use Rattle.base_quantities.specs.QuantityMeanings.{sum_meant}
use Rattle.base_numerals.specs.PutBytes.{Put}
use Rattle.join_groups.proofs.TakenLaws.{takes}
use Rattle.join_trailer.proofs.TrailerLengths.{in-front}
use Rattle.join_split.proofs.NameLaws.{header-opens}
use Rattle.join_split.proofs.SplitLaws.{last-is, groups-are}
use Rattle.join_split.proofs.Asked.take_rest.Goals as goal

same-put : (bs cs before : Bytes) (n : ℕ) (after : Bytes) → bs ≡ cs → (length bs ≤ length before → Put bs before n after) → length cs ≤ length before → Put cs before n after
same-put bs cs before n after e p = subst (λ (xs : Bytes). length xs ≤ length before → Put xs before n after) e p

pub slice_bounds-count_lines-end : goal.slice_bounds-count_lines-end
slice_bounds-count_lines-end c =
    let a = c.args.self.now in
    omega (arith, (header-opens a.file.now a.header a.opens).inside, length-take a.header a.file.now)

pub returns : goal.returns
returns c =
    let a = c.args.self.now in
    let name = a.name.now in
    let file = a.file.now in
    let h = a.header in
    let o = header-opens file h a.opens in
    let xs = drop h file in
    let t = c.take_groups-tally.result in
    let taken = takes name xs o.ahead (omega (arith, length-drop h file, o.not-too-long)) _ _ _ c.take_groups-tally.ensures in
    let n = c.count_lines.result.0 in
    let all : c.add.result.0 ≡ (n + t.records.0) + 1 = omega (arith, c.add.ensures, c.add-records.ensures, c.count_lines.ensures.1, taken.tallied.few, taken.inside, length-drop h file, length-take h file, o.inside, o.not-too-long) in
    let groups = groups-are name file h o in
    let last = c.fresh_trailer.ensures in
    record {
      count = taken.tallied.size ∙ ap length groups;
      put = same-put _ _ _ _ _ groups taken.put;
      is_last = in-front _ _ last.0 ∙ last-is name file h o t.groups.0 t.bytes (sum_meant t.total) t.records.0 n _ taken.tallied c.count_lines.ensures.0 all;
      last-most = (last.1, last.2);
    }
