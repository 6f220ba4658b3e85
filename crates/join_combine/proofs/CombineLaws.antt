-- What combine writes is A up to its 99, B from after its header up to its 99, and a 99 with the numbers that were counted. Assumes nothing.
use Prim.Native.Nat.{ℕ, ◌+◌, ◌-◌, ◌≤◌, ◌<◌}
use native.Mathlib.Omega.{arith}
use native.Mathlib.Nat.{zero-add}
use mathlib.Core.Path.{◌≡◌, refl, sym, ap, ◌∙◌}
use mathlib.Core.Bool.{true, false}
use mathlib.Core.List.{[], ◌∷◌, ◌++◌, append_assoc, append-nil}
use borrow.Author.Tests.{le-leb, lt-leb}
use lib.Dec.{T}
use lib.ListN.{length, take, drop, length-append, length-drop}
use lib.Seq.{length-take-le}
use Rattle.rules.specs.Bytes.{Bytes}
use Rattle.rules.specs.Numbers.{Sum, ◌⊕◌, magnitudes}
use Rattle.rules.specs.Limits.{most, longest_file}
use Rattle.rules.specs.Outcome.{Refusal, refused, refuse, fine}
use Rattle.rules.specs.Lines.{lines_of, record_size, record_bytes, file_records}
use Rattle.rules.specs.Totals.{Summary, ◌⊞◌}
use Rattle.rules.specs.Verdict.{judge}
use Rattle.rules.specs.Parts.{header_in, groups_in, size_of_all}
use Rattle.rules.specs.Combine.{fresh_trailer, limit_of, lines_within, concat, answered, combined, which_file, combine}
use Rattle.rules.proofs.Accepted.{accepted}
use Rattle.read_lines.specs.LineLengths.{first_record}
use Rattle.join_trailer.specs.FreshTrailer.{last_line}
use Rattle.join_trailer.proofs.FreshLaws.{is-fresh}
use Rattle.join_trailer.proofs.FitsLaws.{front-size}
use Rattle.laws.specs.LawWords.{header_lines, group_parts, only_lines}
use Rattle.laws.proofs.KeptBytes.{bytes-of-parts, kept-alone}
use Rattle.laws.proofs.Groups.{Decomposed, decomposed, good-kept}
use Rattle.laws.proofs.PartSlices.{size-length}
use Rattle.laws.proofs.CombineSplit.{header_count, summary-of-groups}
use Rattle.laws.proofs.ForCode.{fresh_numbers}
use Rattle.laws.proofs.CallTheorems.{combined-by-slices}
use Rattle.join_groups.proofs.GroupRecords.{records-drop, records-take, records-fit, sizes-append, lines_are}
use Rattle.join_groups.proofs.GroupOpens.{Opened, opened}
use Rattle.read_file.specs.declared.GoodFile.{GoodFile}
use Rattle.base_totals.specs.SummaryMeaning.{summary_meant}
use Rattle.read_file.specs.FileAnswers.{IsGood}
use Rattle.std.specs.Prelude.{Err}
use Rattle.base_refusals.specs.RefusalMeaning.{refusal_meant}
use Rattle.join_combine.specs.declared.Refused.{Refused}
use Rattle.join_combine.specs.CombineAnswers.{combined_meant, combined_result, combined_fitting, combined_accepted}

-- ---- combine's first answers

-- a refusal, told as the rules answer it
pub refused-told : (why : Refused) (before : Bytes) → combined_meant (Err why) before ≡ answered (refused (refusal_meant why.refusal)) why.file before
unfolding answered
refused-told why before = refl

module _ (a b before : Bytes) where
  pub first-refused : (why : Refusal) → judge a ≡ refused why → answered (refused why) 1 before ≡ combine a b before
  unfolding combine combined answered which_file
  first-refused why i = sym (rw i)

  module _ (s : Summary) (i : judge a ≡ fine s) where
    pub second-refused : (why : Refusal) → judge b ≡ refused why → answered (refused why) 2 before ≡ combine a b before
    unfolding combine combined answered which_file
    second-refused why j = sym (rw (i, j))

    pub both-accepted : (t : Summary) → judge b ≡ fine t → combined_accepted s t a b before ≡ combine a b before
    unfolding combine combined answered which_file combined_accepted combined_result
    both-accepted t j = sym (rw (i, j))

  -- 10; the 18 of B's lines; neither
  module _ (s t : Summary) where
    pub too_large : most < magnitudes (s.sum ⊕ t.sum) → answered (refuse 10 0) 0 before ≡ combined_accepted s t a b before
    unfolding combined_accepted answered
    too_large h = sym (rw (lt-leb (magnitudes s.sum + magnitudes t.sum) most (omega arith)))

    module _ (h : magnitudes (s.sum ⊕ t.sum) ≤ most) where
      pub too_wide : lines_within (limit_of (header_in a)) (concat (concat (groups_in b))) ≡ false → answered (refuse 18 0) 0 before ≡ combined_accepted s t a b before
      unfolding combined_accepted answered
      too_wide w = sym (rw (le-leb (magnitudes s.sum + magnitudes t.sum) most (omega arith), w))

      pub to-fit : lines_within (limit_of (header_in a)) (concat (concat (groups_in b))) ≡ true → combined_fitting a b before ≡ combined_accepted s t a b before
      unfolding combined_accepted combined_fitting
      to-fit w = sym (rw (le-leb (magnitudes s.sum + magnitudes t.sum) most (omega arith), w))

-- ---- an accepted file and its 99

only-less : (s g : Summary) (n : ℕ) → s ≡ g ⊞ only_lines n → n ≤ s.records
unfolding ◌⊞◌
only-less s g n e = rw e (omega arith)

module _ (file : Bytes) (g : GoodFile) (is : IsGood g file) where
  pub parts : Decomposed file
  parts = decomposed file (summary_meant g.summary) is.accepts

  reads : file_records file ≡ (header_in file ++ concat (groups_in file)) ++ (parts.trailer ∷ [])
  reads = parts.records ∙ sym (append_assoc (header_in file) (concat (groups_in file)) (parts.trailer ∷ []))

  pub short : length file ≤ longest_file
  short = (accepted file (summary_meant g.summary) is.accepts).not-too-long

  pub last-inside : g.last.0 ≤ length file
  last-inside = rw is.last (records-fit (header_in file ++ concat (groups_in file)) (parts.trailer ∷ []) file reads)

  last-reads : lines_of (drop g.last.0 file) ≡ parts.trailer
  unfolding concat
  last-reads =
      lines_are (drop g.last.0 file) (parts.trailer ∷ [])
      (ap (λ (n : ℕ). file_records (drop n file)) is.last ∙ records-drop (header_in file ++ concat (groups_in file)) (parts.trailer ∷ []) file reads)
      ∙ append-nil parts.trailer

  last-place : g.last.0 ≡ length (header_lines file) + length (concat (group_parts file))
  unfolding header_lines group_parts
  last-place =
      is.last
      ∙ sizes-append (header_in file) (concat (groups_in file))
      ∙ rw (size-length (header_in file), size-length (concat (groups_in file)), bytes-of-parts (groups_in file))

  ends-counted : header_count file + length parts.trailer ≤ g.summary.records.0
  ends-counted = only-less (summary_meant g.summary) _ _ (summary-of-groups file (summary_meant g.summary) is.accepts parts)

  -- and its header, of h bytes
  module _ (h : ℕ) (e : h ≡ record_size (first_record (lines_of file))) where
    opens : Opened file h
    opens = opened file (summary_meant g.summary) h is.accepts (e ∙ sym (zero-add _))

    header-size : length (header_lines file) ≡ h
    unfolding header_lines
    header-size = front-size (record_bytes (header_in file)) file h opens.header opens.inside

    header-counted : length (lines_of (take h file)) ≡ header_count file
    header-counted = ap length opens.header-reads

    pub header-first : h ≤ g.last.0
    header-first = omega (arith, last-place, header-size)

    groups-size : g.last.0 - h ≡ length (concat (group_parts file))
    groups-size = omega (arith, last-place, header-size)

    -- the groups between them
    groups-read : lines_of (take (g.last.0 - h) (drop h file)) ≡ concat (concat (groups_in file))
    unfolding group_parts
    groups-read =
        let gs = concat (groups_in file) in
        let size : g.last.0 - h ≡ size_of_all gs = groups-size ∙ sym (size-length gs ∙ ap length (bytes-of-parts (groups_in file))) in
        let bytes : take (g.last.0 - h) (drop h file) ≡ record_bytes gs = rw size (records-take gs (opens.decomposition.trailer ∷ []) (drop h file) opens.after) in
        ap lines_of bytes ∙ lines_are (record_bytes gs) gs (kept-alone gs (good-kept (groups_in file) parts.groups))

    pub groups-within : T (lines_within g.limit (lines_of (take (g.last.0 - h) (drop h file))))
    groups-within = rw (is.limit, groups-read) parts.within

    pub same_lines : (limit : ℕ) → lines_within limit (lines_of (take (g.last.0 - h) (drop h file))) ≡ lines_within limit (concat (concat (groups_in file)))
    same_lines limit = ap (lines_within limit) groups-read

-- ---- two accepted files

-- parts of two files, between the same places
same_parts : (a b : Bytes) {i j h k m n : ℕ} {bs cs : Bytes} → i ≡ j → h ≡ k → m ≡ n → bs ≡ cs → take i a ++ (take m (drop h b) ++ bs) ≡ take j a ++ (take n (drop k b) ++ cs)
same_parts a b d e f g = rw (d, e, f, g)

module _ (a b : Bytes) (x y : GoodFile) (p : IsGood x a) (q : IsGood y b) (h : ℕ) (e : h ≡ record_size (first_record (lines_of b))) where
  -- the 99, by the numbers that were counted: n is without the records of A's 99 and of B's 01 and 99
  module _ (total : Sum) (n : ℕ) (adds : total ≡ (summary_meant x.summary).sum ⊕ (summary_meant y.summary).sum)
      (left : n ≡ ((x.summary.records.0 + y.summary.records.0) - (length (lines_of (drop x.last.0 a)) + length (lines_of (take h b)) + length (lines_of (drop y.last.0 b)))) + 1) where
    abbrev pub fresh99 : Bytes
    fresh99 = last_line total (x.summary.groups.0 + y.summary.groups.0) n

    abbrev numbers : Summary
    numbers = fresh_numbers (summary_meant x.summary) (summary_meant y.summary) (length (parts a x p).trailer) (header_count b + length (parts b y q).trailer)

    counted : n ≡ numbers.records + 1
    counted = omega (arith, left, ap length (last-reads a x p), header-counted b y q h e, ap length (last-reads b y q), ends-counted a x p, ends-counted b y q)

    last-is : fresh99 ≡ fresh_trailer numbers
    last-is = rw (adds, counted) (is-fresh numbers)

    pub result-is : take x.last.0 a ++ (take (y.last.0 - h) (drop h b) ++ fresh99) ≡ combined_result a b
    unfolding combined_result
    result-is =
        same_parts a b (last-place a x p) (sym (header-size b y q h e)) (groups-size b y q h e) last-is
        ∙ sym (combined-by-slices a b (summary_meant x.summary) (summary_meant y.summary) p.accepts q.accepts (parts a x p) (parts b y q))

  pub result-size : (last : Bytes) → length (take x.last.0 a ++ (take (y.last.0 - h) (drop h b) ++ last)) ≡ (x.last.0 + (y.last.0 - h)) + length last
  result-size last =
      let size : length (take (y.last.0 - h) (drop h b)) ≡ y.last.0 - h = length-take-le (y.last.0 - h) (drop h b) (rw length-drop (omega (arith, last-inside b y q))) in
      omega (
        arith,
        length-append (take x.last.0 a) (take (y.last.0 - h) (drop h b) ++ last),
        length-append (take (y.last.0 - h) (drop h b)) last,
        length-take-le x.last.0 a (last-inside a x p),
        size,
      )
