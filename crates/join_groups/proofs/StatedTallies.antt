-- What groups add, from what their 98s state: the numbers that the rules have of them. Assumes nothing.
use Prim.Native.Nat.{ℕ, ◌+◌, ◌≤◌}
use native.Mathlib.Omega.{arith}
use mathlib.Core.Path.{◌≡◌, refl, sym, ap, subst, ◌∙◌}
use mathlib.Core.List.{List, [], ◌∷◌, ◌++◌}
use lib.Dec.{eqb→eq}
use lib.ListN.{length, length-append}
use Rattle.rules.specs.Bytes.{same_bytes}
use Rattle.rules.specs.Numbers.{Sum, magnitudes}
use Rattle.rules.specs.Amounts.{Amount, empty, unsigned, with_plus, with_minus, amount_in, amount_adds}
use Rattle.rules.specs.Lines.{Code, group_header, Record, record_bytes}
use Rattle.rules.specs.Grammar.{total}
use Rattle.rules.specs.Records.{the}
use Rattle.rules.specs.Totals.{Summary, ◌⊞◌, one, adding, of_record}
use Rattle.rules.specs.Combine.{summary_of, summary_of_all, concat}
use Rattle.laws.specs.LawWords.{All, Begins, Of, add_up, sum_up}
use Rattle.laws.proofs.Codes.{of-each}
use Rattle.laws.proofs.PartCuts.{group_codes}
use Rattle.laws.proofs.Envelopes.{group-begins, group-codes}
use Rattle.laws.proofs.SummarySums.{summary-append, summary-as, lines-counted}
use Rattle.laws.proofs.WholeLines.{no-more-lines}
use Rattle.laws.proofs.KeptBytes.{bytes-append, bytes-joined}
use Rattle.join_groups.specs.StatedNumbers.{stated_total, stated_records}
use Rattle.join_groups.specs.GroupsTaken.{last_in, total_stated, records_stated}
use Rattle.join_groups.proofs.GroupsAhead.{Stands}
use Rattle.join_groups.proofs.GroupCuts.{last-ended}
use Rattle.join_groups.proofs.StatedLaws.{stated-total, stated-records}
use Rattle.join_groups.proofs.GroupShapes.{goes_on, is-ended}

-- ---- what one group adds

-- no 02 but the first
no-groups : (cs : List Code) (rs : List Record) → All (λ c. one c group_header ≡ 0) cs → All (Of cs) rs → (summary_of_all rs).groups ≡ 0
unfolding summary_of_all ◌⊞◌ of_record adding
no-groups cs [] n a = refl
no-groups cs (r ∷ rs) n a =
    let o = a.0 in
    let e : (summary_of r).groups ≡ 0 = ap (λ (u : Summary). u.groups) (summary-as o.code r o.is_code) ∙ of-each (λ c. one c group_header ≡ 0) cs n o.code o.is_among in
    rw (e, no-groups cs rs n a.1)

one-group : (g : List Record) → Begins group_header group_codes g → (summary_of_all g).groups ≡ 1
unfolding summary_of_all ◌⊞◌ of_record adding same_bytes
one-group [] b = absurd b
one-group (r ∷ rs) b =
    let e : (summary_of r).groups ≡ 1 = ap (λ (u : Summary). u.groups) (summary-as group_header r b.0) in
    rw (e, no-groups group_codes rs (refl, (refl, (refl, (refl, tt)))) b.1)

-- a group's numbers: the total and the lines that its 98 states
record Adds (g : List Record) (sum : Sum) (lines : ℕ) : Type 0 where
  pub group : (summary_of_all g).groups ≡ 1
  pub total : (summary_of_all g).sum.pluses + sum.minuses ≡ sum.pluses + (summary_of_all g).sum.minuses
  pub small : magnitudes sum ≤ magnitudes (summary_of_all g).sum
  pub records : lines ≡ (summary_of_all g).records
  pub few : lines ≤ length (record_bytes g)

-- a sum with one side is no larger than any that equals it
one-sided : (a : Sum) (x : Amount) → a.pluses + (amount_adds x).minuses ≡ (amount_adds x).pluses + a.minuses → magnitudes (amount_adds x) ≤ magnitudes a
one-sided a empty e = omega arith
one-sided a (unsigned n) e = omega arith
one-sided a (with_plus n) e = omega arith
one-sided a (with_minus n) e = omega arith

adds : (g : List Record) → Stands g → Adds g (stated_total (last_in g)) (stated_records (last_in g))
adds g s =
    let c = s.controlled in
    let a = amount_in (the total c.fields).bytes in
    let last : last_in g ≡ c.trailer = ap last_in c.whole ∙ last-ended c.trailer (is-ended g s) c.before (goes_on g s) in
    let is-total : stated_total (last_in g) ≡ amount_adds a = ap (λ (r : Record). stated_total r) last ∙ stated-total c.trailer c.fields c.walked in
    let stated = eqb→eq _ _ c.states-total in
    let counted = lines-counted _ g (group-codes g s.is-group) in
    let lines_are : stated_records (last_in g) ≡ length (concat g) = ap (λ (r : Record). stated_records r) last ∙ stated-records c.trailer c.fields c.walked ∙ c.states-lines in
    let most-lines = no-more-lines (concat g) s.kept.wholes in
    let bytes = ap length (bytes-joined g) in
    record {
      group = one-group g (group-begins g s.is-group);
      total = subst (λ (u : Sum). (summary_of_all g).sum.pluses + u.minuses ≡ u.pluses + (summary_of_all g).sum.minuses) (sym is-total) stated;
      small = subst (λ (u : Sum). magnitudes u ≤ magnitudes (summary_of_all g).sum) (sym is-total) (one-sided (summary_of_all g).sum a stated);
      records = lines_are ∙ sym counted;
      few = omega arith;
    }

-- ---- what groups add

pub record AddUp (gs : List (List Record)) (sum : Sum) (lines : ℕ) : Type 0 where
  pub count : length gs ≡ (summary_of_all (concat gs)).groups
  pub total : (summary_of_all (concat gs)).sum.pluses + sum.minuses ≡ sum.pluses + (summary_of_all (concat gs)).sum.minuses
  pub small : magnitudes sum ≤ magnitudes (summary_of_all (concat gs)).sum
  pub records : lines ≡ (summary_of_all (concat gs)).records
  pub few : lines ≤ length (record_bytes (concat gs))

pub add-up : (gs : List (List Record)) → All Stands gs → AddUp gs (total_stated gs) (records_stated gs)
unfolding concat summary_of_all record_bytes ◌⊞◌ total_stated records_stated sum_up add_up
add-up [] a = record { count = refl; total = refl; small = omega arith; records = refl; few = omega arith }
add-up (g ∷ gs) a =
    let e : summary_of_all (g ++ concat gs) ≡ summary_of_all g ⊞ summary_of_all (concat gs) = summary-append g (concat gs) in
    let b : length (record_bytes (g ++ concat gs)) ≡ length (record_bytes g) + length (record_bytes (concat gs)) =
    ap length (bytes-append g (concat gs)) ∙ length-append (record_bytes g) (record_bytes (concat gs)) in
    let first = adds g a.0 in
    let others = add-up gs a.1 in
    record {
      count = rw e (omega (arith, first.group, others.count));
      total = rw e (omega (arith, first.total, others.total));
      small = rw e (omega (arith, first.small, others.small));
      records = rw e (omega (arith, first.records, others.records));
      few = omega (arith, b, first.few, others.few);
    }
