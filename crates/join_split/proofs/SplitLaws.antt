-- What split writes is the header's bytes, the groups' bytes and a 99 with the numbers that were tallied; it is hardly longer than the file. Assumes nothing.
use Prim.Native.Nat.{ℕ, ◌+◌, ◌≤◌}
use native.Mathlib.Omega.{arith}
use native.Mathlib.Nat.{zero-add}
use mathlib.Core.Path.{◌≡◌, refl, sym, ap, subst, ◌∙◌}
use mathlib.Core.Bool.{true}
use mathlib.Core.List.{List, [], ◌∷◌, ◌++◌, append_assoc}
use lib.ListN.{length, take, drop, length-append, length-drop}
use lib.Seq.{length-take-le}
use Rattle.rules.specs.Bytes.{Bytes}
use Rattle.rules.specs.Numbers.{Sum, equals, magnitudes}
use Rattle.rules.specs.Limits.{most}
use Rattle.rules.specs.Lines.{lines_of, Record, record_bytes}
use Rattle.rules.specs.Totals.{Summary, ◌⊞◌}
use Rattle.rules.specs.Parts.{header_in, groups_in}
use Rattle.rules.specs.Combine.{summary_of_all, fresh_trailer, with_trailer, concat}
use Rattle.rules.specs.Split.{groups_for}
use Rattle.base_digits.proofs.TotalStrings.{total-same}
use Rattle.join_trailer.specs.FreshTrailer.{last_line}
use Rattle.join_trailer.proofs.FreshLaws.{is-fresh}
use Rattle.join_trailer.proofs.TrailerLengths.{last-short}
use Rattle.laws.specs.LawWords.{only_lines}
use Rattle.laws.proofs.SummarySums.{summary-append}
use Rattle.laws.proofs.KeptBytes.{bytes-append}
use Rattle.laws.proofs.PartSlices.{size-length}
use Rattle.laws.proofs.Groups.{good-for}
use Rattle.laws.proofs.Assembly.{few-groups-in, few-lines-in}
use Rattle.laws.proofs.CombineSplit.{fewer}
use Rattle.join_groups.proofs.GroupsAhead.{matching, Tallied}
use Rattle.join_groups.proofs.GroupRecords.{records-fit}
use Rattle.join_groups.proofs.GroupOpens.{Opened}
use Rattle.join_split.specs.SplitAnswers.{split_result, split_groups, split_last}

-- a 99 is written by the number of its total, its groups and its records alone
pub same-last : (s : Summary) (total : Sum) (groups records : ℕ) → equals total s.sum ≡ true → groups ≡ s.groups → records ≡ s.records + 1 → last_line total groups records ≡ fresh_trailer s
unfolding last_line
same-last s total groups records e g r = rw (total-same total s.sum e, g, r) (is-fresh s)

-- the summary of a header and of groups
header-first : (s t : Summary) (n : ℕ) → s ≡ only_lines n → ((s ⊞ t).sum ≡ t.sum) × ((s ⊞ t).groups ≡ t.groups) × ((s ⊞ t).records ≡ n + t.records)
unfolding ◌⊞◌
header-first s t n e = rw e (λ i. record { pluses = zero-add t.sum.pluses i; minuses = zero-add t.sum.minuses i }, zero-add t.groups, refl)

module _ (name file : Bytes) (h : ℕ) (o : Opened file h) where
  abbrev gs : List (List Record)
  gs = groups_for name (groups_in file)

  abbrev kept : List (List Record)
  kept = matching name (drop h file)

  same : kept ≡ gs
  same = ap (groups_for name) o.groups

  -- the 99
  module _ (groups bytes : ℕ) (total : Sum) (records n m : ℕ) (t : Tallied kept groups bytes total records) (lines : n ≡ length (lines_of (take h file))) (all : m ≡ (n + records) + 1) where
    pub last-is : last_line total groups m ≡ split_last name file
    unfolding split_last
    last-is =
        let S = summary_of_all (concat kept) in
        let n-is : n ≡ length (concat (header_in file)) = lines ∙ ap length o.header-reads in
        let parts = header-first (summary_of_all (header_in file)) S (length (concat (header_in file))) o.decomposition.header.adds in
        let whole : summary_of_all (header_in file ++ concat gs) ≡ summary_of_all (header_in file) ⊞ S = summary-append (header_in file) (concat gs) ∙ rw same in
        rw whole
        (same-last (summary_of_all (header_in file) ⊞ S) total groups m (rw parts.0 t.sum) (t.count ∙ sym parts.1) (omega (arith, t.lines, parts.2)))

  pub groups-are : record_bytes (concat kept) ≡ split_groups name file
  unfolding split_groups
  groups-are = ap (λ (hs : List (List Record)). record_bytes (concat hs)) same

  -- all of it
  pub result_parts : take h file ++ (split_groups name file ++ split_last name file) ≡ split_result name file
  unfolding split_result split_groups split_last with_trailer
  result_parts =
      let last = fresh_trailer (summary_of_all (header_in file ++ concat gs)) in
      rw o.header
      (sym (ap (λ (bs : Bytes). bs ++ last) (bytes-append (header_in file) (concat gs)) ∙ append_assoc (record_bytes (header_in file)) (record_bytes (concat gs)) last))

  pub result-size : length (split_result name file) ≡ (h + length (split_groups name file)) + length (split_last name file)
  result-size =
      sym (ap length result_parts) ∙ length-append (take h file) (split_groups name file ++ split_last name file)
      ∙ rw (length-append (split_groups name file) (split_last name file), length-take-le h file o.inside) (omega arith)

  -- header and groups are no longer than the file
  groups-most : h + length (split_groups name file) ≤ length file
  unfolding split_groups
  groups-most =
      let fit = records-fit (concat (groups_in file)) (o.decomposition.trailer ∷ []) (drop h file) o.after in
      omega (arith, (fewer 0 name (groups_in file)).no_longer, size-length (concat (groups_in file)), length-drop h file, o.inside)

  last-most : length (split_last name file) ≤ 64
  unfolding split_last split_groups
  last-most =
      let d = o.decomposition in
      let s = summary_of_all (header_in file ++ concat gs) in
      let good = good-for name (groups_in file) d.groups in
      let parts = header-first (summary_of_all (header_in file)) (summary_of_all (concat gs)) (length (concat (header_in file))) d.header.adds in
      let sum : s.sum ≡ (summary_of_all (concat gs)).sum = ap (λ (u : Summary). u.sum) (summary-append (header_in file) (concat gs)) ∙ parts.0 in
      let bound : magnitudes (summary_of_all (concat (groups_in file))).sum ≤ most =
      subst (λ (hs : List (List Record)). magnitudes (summary_of_all (concat hs)).sum ≤ most) o.groups o.ahead.bounded in
      let small : magnitudes s.sum ≤ most = rw sum (omega (arith, (fewer 0 name (groups_in file)).no_more, bound)) in
      let size : length (record_bytes (header_in file ++ concat gs)) ≡ h + length (record_bytes (concat gs)) =
      ap length (bytes-append (header_in file) (concat gs)) ∙ length-append (record_bytes (header_in file)) (record_bytes (concat gs)) ∙ rw (← o.header, length-take-le h file o.inside) in
      let most-lines = groups-most in
      subst (λ (bs : Bytes). length bs ≤ 64) (is-fresh s)
      (last-short s.sum s.groups (s.records + 1) (omega arith) (omega arith)
      (omega (arith, few-groups-in (header_in file) gs d.header good, o.not-too-long)) (omega (arith, few-lines-in (header_in file) gs d.header good, o.not-too-long)))

  pub result-most : length (split_result name file) ≤ length file + 64
  result-most = omega (arith, result-size, groups-most, last-most)
