-- `take_groups` meets its contract: turn by turn, what is taken so far and what is ahead are all that there is to take. Assumes nothing.
use Prim.Native.Nat.{ℕ, ◌+◌, ◌-◌, ◌≤◌, min}
use native.Mathlib.Omega.{arith}
use mathlib.Core.Path.{◌≡◌, refl, ap, sym, subst, ◌∙◌}
use mathlib.Core.List.{List}
use lib.ListN.{length, take, drop}
use Rattle.rules.specs.Bytes.{Bytes}
use Rattle.rules.specs.Numbers.{Sum, ◌⊕◌}
use Rattle.rules.specs.Lines.{Record}
use Rattle.base_quantities.specs.QuantityMeanings.{sum_meant, wrapped_sum, most_records}
use Rattle.base_slices.proofs.WroteLaws.{within-rest}
use Rattle.join_groups.specs.StatedNumbers.{stated_total, stated_records}
use Rattle.join_groups.specs.GroupsTaken.{groups_taken}
use Rattle.join_groups.proofs.GroupTallies.{Taking, take-start, take-one, take-end, take_put}
use Rattle.join_groups.proofs.GroupTurns.{spans, TurnIs, turn_is, no_more}
use Rattle.join_groups.proofs.take_groups.Goals as goal

pub loop-at-init : goal.loop-at-init
loop-at-init c =
    let a = c.args in
    let all = groups_taken a.name.now (drop a.from.0 a.file.now) in
    record {
      room = omega arith;
      few = omega arith;
      short = omega arith;
      inside = omega arith;
      taking = subst (λ (s : Sum). Taking all all a.out.now 0 0 s 0 0 a.out.now) (sym c.none.ensures) (take-start all a.out.now);
    }

-- ---- in a turn, where the group starts and ends

pub slice_bounds-is_for-end : goal.slice_bounds-is_for-end
slice_bounds-is_for-end c = omega (arith, c.record_end-header.ensures.1, spans c.args.file.now _ _ _ (sym c.begins.ensures ∙ c.loop-at-test.true) c.next_line_of-last.ensures c.record_end-end.ensures)

pub slice_bounds-put-end-then-is_for : goal.slice_bounds-put-end-then-is_for
slice_bounds-put-end-then-is_for c = (spans c.args.file.now _ _ _ (sym c.begins.ensures ∙ c.loop-at-test.true) c.next_line_of-last.ensures c.record_end-end.ensures).2

pub slice_bounds-read_trailer-end : goal.slice_bounds-read_trailer-end
slice_bounds-read_trailer-end c = (spans c.args.file.now _ _ _ (sym c.begins.ensures ∙ c.loop-at-test.true) c.next_line_of-last.ensures c.record_end-end.ensures).2

pub loop-at-smaller-then-is_for : goal.loop-at-smaller-then-is_for
loop-at-smaller-then-is_for c = omega (arith, spans c.args.file.now _ _ _ (sym c.begins.ensures ∙ c.loop-at-test.true) c.next_line_of-last.ensures c.record_end-end.ensures)

pub loop-at-smaller : goal.loop-at-smaller
loop-at-smaller c = omega (arith, spans c.args.file.now _ _ _ (sym c.begins.ensures ∙ c.loop-at-test.true) c.next_line_of-last.ensures c.record_end-end.ensures)

-- ---- after a turn

-- the numbers after it, as the code adds them
same-taking : (all ahead : List (List Record)) (before : Bytes) (groups bytes bytes' : ℕ) (sum sum' : Sum) (lines lines' o : ℕ) (out : Bytes) → bytes ≡ bytes' → sum ≡ sum' → lines ≡ lines'
    → Taking all ahead before groups bytes' sum' lines' o out → Taking all ahead before groups bytes sum lines o out
same-taking all ahead before groups bytes bytes' sum sum' lines lines' o out d e f t = rw (d, e, f) t

pub loop-at-preserved-then-is_for : goal.loop-at-preserved-then-is_for
loop-at-preserved-then-is_for c =
    let file = c.args.file.now in
    let begun = sym c.begins.ensures ∙ c.loop-at-test.true in
    let h = spans file _ _ _ begun c.next_line_of-last.ensures c.record_end-end.ensures in
    let turn = turn_is file _ _ _ begun c.next_line_of-last.ensures.0 c.record_end-end.ensures.0 c.args.name.now _ c.is_for.result c.record_end-header.ensures.0 c.is_for.ensures in
    let l = c.loop-at in
    let all = groups_taken c.args.name.now (drop c.args.from.0 file) in
    let read = c.read_trailer-trailer.ensures in
    let ahead = subst (λ (gs : List (List Record)). Taking all gs c.args.out.now l.tally.groups.0 l.tally.bytes (sum_meant l.tally.total) l.tally.records.0 l.o l.out) (turn.next-taken c.if-is_for.true) l.invariant.taking in
    let sum = c.add-tally.ensures ∙ ap (λ (a : Sum). wrapped_sum (sum_meant l.tally.total ⊕ a)) (read.0 ∙ ap (λ (r : Record). stated_total r) turn.trailer) in
    let lines = c.add-tally-then-is_for.ensures ∙ ap (λ (n : ℕ). min (l.tally.records.0 + n) most_records) (read.1 ∙ ap (λ (r : Record). stated_records r) turn.trailer) in
    record {
      room = omega (arith, within-rest l.o _ l.out _ _ l.invariant.room c.put-o.ensures);
      few = omega arith;
      short = omega arith;
      inside = omega arith;
      taking =
          same-taking _ _ _ _ _ _ _ _ _ _ _ _ (ap (λ (n : ℕ). l.tally.bytes + n) turn.size) sum lines
          (take-one _ turn.group _ _ _ _ _ _ _ _ _ _ ahead (rw turn.part at c.put-o.ensures));
    }

pub loop-at-preserved : goal.loop-at-preserved
loop-at-preserved c =
    let file = c.args.file.now in
    let begun = sym c.begins.ensures ∙ c.loop-at-test.true in
    let h = spans file _ _ _ begun c.next_line_of-last.ensures c.record_end-end.ensures in
    let turn = turn_is file _ _ _ begun c.next_line_of-last.ensures.0 c.record_end-end.ensures.0 c.args.name.now _ c.is_for.result c.record_end-header.ensures.0 c.is_for.ensures in
    let l = c.loop-at in
    let all = groups_taken c.args.name.now (drop c.args.from.0 file) in
    record {
      room = l.invariant.room;
      few = omega arith;
      short = omega arith;
      inside = omega arith;
      taking = subst (λ (gs : List (List Record)). Taking all gs c.args.out.now l.tally.groups.0 l.tally.bytes (sum_meant l.tally.total) l.tally.records.0 l.o l.out) (turn.left_out c.if-is_for.false) l.invariant.taking;
    }

-- ---- after the last group

pub returns : goal.returns
returns c =
    let l = c.loop-at in
    let a = c.args in
    let all = groups_taken a.name.now (drop a.from.0 a.file.now) in
    let over = no_more a.name.now (drop l.at.0 a.file.now) (sym c.begins.ensures ∙ c.loop-at-test.false) in
    let took = subst (λ (gs : List (List Record)). Taking all gs a.out.now l.tally.groups.0 l.tally.bytes (sum_meant l.tally.total) l.tally.records.0 l.o l.out) over l.invariant.taking in
    (take-end all a.out.now _ _ l.tally.total l.tally.records l.o l.out took, take_put all a.out.now _ _ l.tally.total l.tally.records l.o l.out took)
