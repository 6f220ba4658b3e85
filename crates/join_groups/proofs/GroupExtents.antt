-- The next group of any bytes that begin with a 02: where its 98 starts and ends, its bytes, and what stands after it. Assumes nothing.
use Prim.Native.Nat.{ℕ, ◌+◌, ◌<◌}
use native.Mathlib.Omega.{arith}
use mathlib.Core.Path.{◌≡◌, refl, sym, ap, subst, ◌∙◌}
use mathlib.Core.Bool.{true, false}
use mathlib.Core.List.{List, [], ◌∷◌, ◌++◌, append_assoc, append-nil}
use lib.ListN.{length, take, drop}
use Rattle.rules.specs.Bytes.{Bytes, same_bytes}
use Rattle.rules.specs.Lines.{Line, lines_of, group_header, group_trailer, file_trailer, code_bytes, Record, records_of, record_size, record_bytes, file_records}
use Rattle.rules.specs.Order.{among}
use Rattle.rules.specs.Parts.{heads, size_of_all}
use Rattle.rules.specs.Combine.{concat}
use Rattle.rules.proofs.LineLaws.{file-bytes}
use Rattle.read_lines.specs.LineLengths.{first_record}
use Rattle.read_lines.proofs.OneRecord.{one-record}
use Rattle.find_lines.specs.LinesOfCode.{bytes_before}
use Rattle.laws.specs.LawWords.{All, Continues, IsRecord}
use Rattle.laws.proofs.Lists.{all_left, all_both, all_from, concat-append}
use Rattle.laws.proofs.KeptBytes.{records-first}
use Rattle.laws.proofs.PartSlices.{size-length}
use Rattle.join_groups.specs.GroupsTaken.{ends, cut_after, first_in, last_in, in_front}
use Rattle.join_groups.proofs.GroupRecords.{first-is, first-lines, heads-front, records-drop, records-take, size-joined, sizes-append, Passed, before-past, before-first, passed-88, lines_are}
use Rattle.join_groups.proofs.GroupCuts.{GoesOn, FirstEnd, ended, unended, first-end, cut-ended, last-ended, cut-unended, last-unended, first-same, none-in-front}

-- ---- lines of records that end no group are passed over

-- the lines after its first are 88s
abbrev Tailed : Record → Type 0
Tailed [] = Unit {0}
Tailed (l ∷ ls) = All Continues ls

tailed : (r : Record) → IsRecord r → Tailed r
tailed [] i = absurd i
tailed (l ∷ ls) i = i.1

all-tailed : (ls : List Line) → All Tailed (records_of ls)
unfolding records_of
all-tailed [] = tt
all-tailed (l ∷ ls) = let f = records-first l ls in rw f.split (f.more-88, all_from Tailed IsRecord tailed f.others f.are-records)

passed-one : (r : Record) → GoesOn r → Tailed r → All (Passed group_trailer file_trailer) r
unfolding among same_bytes
passed-one [] g t = tt
passed-one (l ∷ ls) g t = (g, passed-88 group_trailer file_trailer tt tt ls t)

passed-all : (rs : List Record) → All GoesOn rs → All Tailed rs → All (Passed group_trailer file_trailer) (concat rs)
unfolding concat
passed-all [] g t = tt
passed-all (r ∷ rs) g t = all_both (Passed group_trailer file_trailer) r (concat rs) (passed-one r g.0 t.0) (passed-all rs g.1 t.1)

-- ---- the next group

pub record Next (xs : Bytes) : Type 0 where
  pub group : List Record
  pub others : List Record
  pub cut : cut_after (file_records xs) ≡ group ∷ cut_after others
  pub first : first_in group ≡ first_in (file_records xs)
  pub before : List Record
  pub last-starts : bytes_before group_trailer file_trailer (lines_of xs) ≡ size_of_all before
  pub last-ends : record_size (first_record (lines_of (drop (size_of_all before) xs))) ≡ record_size (last_in group)
  pub last-reads : lines_of (take (record_size (last_in group)) (drop (size_of_all before) xs)) ≡ last_in group
  pub size : size_of_all before + record_size (last_in group) ≡ length (record_bytes group)
  pub part : take (length (record_bytes group)) xs ≡ record_bytes group
  pub after : file_records (drop (length (record_bytes group)) xs) ≡ others

module _ (xs : Bytes) where
  -- records in front that end no group
  module _ (before rest : List Record) (whole : file_records xs ≡ before ++ rest) (a : All GoesOn before) where
    -- the first line of code 98 or 99 stands after them
    pub last-at : bytes_before group_trailer file_trailer (lines_of xs) ≡ size_of_all before + bytes_before group_trailer file_trailer (concat rest)
    unfolding file_records
    last-at =
        let t : All Tailed before = all_left Tailed before rest (subst (All Tailed) whole (all-tailed (lines_of xs))) in
        ap (bytes_before group_trailer file_trailer) (lines_are xs (before ++ rest) whole ∙ concat-append before rest)
        ∙ before-past group_trailer file_trailer (concat before) (concat rest) (passed-all before a t)
        ∙ rw (size-joined before)

  next-ended : (before : List Record) (last : Record) (others : List Record) → file_records xs ≡ before ++ (last ∷ others) → All GoesOn before → ends last ≡ true → Next xs
  unfolding concat size_of_all
  next-ended before last others whole a h =
      let g = before ++ (last ∷ []) in
      let at_last = records-drop before (last ∷ others) xs whole in
      let ys = drop (size_of_all before) xs in
      let cut : file_records xs ≡ g ++ others = whole ∙ sym (append_assoc before (last ∷ []) others) in
      let is_last = last-ended last h before a in
      record {
        group = g;
        others = others;
        cut = ap cut_after whole ∙ cut-ended last h before others a;
        first = first-same before last others ∙ ap first_in (sym whole);
        before = before;
        last-starts = last-at before (last ∷ others) whole a ∙ rw (before-first group_trailer file_trailer last (concat others) h) (omega arith);
        last-ends = ap record_size (first-is ys last others at_last ∙ sym is_last);
        last-reads = rw is_last (first-lines ys last others at_last);
        size = rw is_last (sym (sym (size-length g) ∙ sizes-append before (last ∷ []) ∙ omega arith));
        part = subst (λ (n : ℕ). take n xs ≡ record_bytes g) (size-length g) (records-take g others xs cut);
        after = subst (λ (n : ℕ). file_records (drop n xs) ≡ others) (size-length g) (records-drop g others xs cut);
      }

  next-unended : (r : Record) (rs : List Record) → file_records xs ≡ r ∷ rs → All GoesOn (r ∷ rs) → Next xs
  unfolding concat bytes_before cut_after record_size first_record lines_of
  next-unended r rs e a =
      let g = r ∷ rs in
      let whole : file_records xs ≡ g ++ [] = e ∙ sym (append-nil g) in
      let none_left = records-drop g [] xs whole in
      let over : lines_of (drop (size_of_all g) xs) ≡ [] = lines_are (drop (size_of_all g) xs) [] none_left in
      let no_last = last-unended g a in
      record {
        group = g;
        others = [];
        cut = ap cut_after e ∙ cut-unended r rs a;
        first = ap first_in (sym e);
        before = g;
        last-starts = last-at g [] whole a ∙ omega arith;
        last-ends = rw (over, no_last);
        last-reads = rw no_last;
        size = rw no_last (omega (arith, size-length g));
        part = subst (λ (n : ℕ). take n xs ≡ record_bytes g) (size-length g) (records-take g [] xs whole);
        after = subst (λ (n : ℕ). file_records (drop n xs) ≡ []) (size-length g) none_left;
      }

  next-by : (r : Record) (rs : List Record) → file_records xs ≡ r ∷ rs → FirstEnd (r ∷ rs) → Next xs
  next-by r rs e (ended before last others whole a h) = next-ended before last others (e ∙ whole) a h
  next-by r rs e (unended a) = next-unended r rs e a

  -- its first record, of bytes that are some
  first-split : 0 < length xs → file_records xs ≡ first_record (lines_of xs) ∷ file_records (drop (record_size (first_record (lines_of xs))) xs)
  unfolding file_records
  first-split h = one-record xs (record_size (first_record (lines_of xs))) refl h

  pub next : 0 < length xs → Next xs
  next h = next-by _ _ (first-split h) (first-end _)

  pub first-whole : 0 < length xs → first_in (file_records xs) ≡ first_record (lines_of xs)
  unfolding first_in
  first-whole h = ap first_in (first-split h)

  -- a 02 is what the bytes begin with
  pub first-heads : heads group_header (first_in (file_records xs)) ≡ same_bytes (code_bytes group_header) (take 3 xs)
  unfolding first_in record_bytes same_bytes
  first-heads = go (file_records xs) refl
    where
      go : (rs : List Record) → file_records xs ≡ rs → heads group_header (first_in rs) ≡ same_bytes (code_bytes group_header) (take 3 xs)
      go [] e = let empty : xs ≡ [] = sym (file-bytes xs) ∙ ap record_bytes e in rw empty
      go (r ∷ rs) e = heads-front xs r rs e group_header

  -- where none stands there is no group
  pub none : same_bytes (code_bytes group_header) (take 3 xs) ≡ false → in_front (cut_after (file_records xs)) ≡ []
  none b = none-in-front (file_records xs) (first-heads ∙ b)
