-- An accepted file's bytes by its parts, and what combine and split write by slices of their files: what code copies and counts. Assumes nothing.
use Prim.Native.Nat.{ℕ, ◌+◌, ◌-◌}
use mathlib.Core.Path.{◌≡◌, sym, ap, ◌∙◌}
use mathlib.Core.List.{List, [], ◌∷◌, ◌++◌, append_assoc, append-nil}
use native.Mathlib.Omega.{arith}
use lib.Dec.{T}
use lib.ListN.{length, take, drop, length-append}
use lib.Seq.{take-append_seam}
use Rattle.rules.specs.Bytes.{Bytes}
use Rattle.rules.specs.Outcome.{fine}
use Rattle.rules.specs.Lines.{Record, line_bytes, record_bytes}
use Rattle.rules.specs.Numbers.{◌⊕◌}
use Rattle.rules.specs.Totals.{Summary, ◌⊞◌}
use Rattle.rules.specs.Verdict.{judge}
use Rattle.rules.specs.Parts.{header_in, groups_in}
use Rattle.rules.specs.Combine.{summary_of_all, fresh_trailer, with_trailer, concat}
use Rattle.rules.proofs.LineLaws.{file-bytes}
use Rattle.laws.specs.LawWords.{All, parts_of, header_lines, group_parts, only_lines, FileParts, ends_in_lf, Kept}
use Rattle.laws.proofs.Lists.{concat-append}
use Rattle.laws.proofs.SummarySums.{same_sum, summary-append}
use Rattle.laws.proofs.KeptBytes.{kept-end, bytes-append, bytes-of-parts, parts-append}
use Rattle.laws.proofs.Envelopes.{group-begins}
use Rattle.laws.proofs.Shape.{is-file, one-header}
use Rattle.laws.proofs.Groups.{GoodGroup, OneHeader, Decomposed, decomposed}
use Rattle.laws.proofs.PartSlices.{middle}
use Rattle.laws.proofs.CombineSplit.{trailer-bytes, header_count, fresh-summary, summary-of-groups}

-- ---- a file's bytes by its parts

header-ends : (hs : List Record) → OneHeader hs → Kept hs → T (ends_in_lf (record_bytes hs))
header-ends [] one k = absurd one
header-ends (h ∷ []) one k = kept-end h [] k
header-ends (h ∷ q ∷ rs) one k = absurd one

group-ends : (g : List Record) → GoodGroup g → T (ends_in_lf (record_bytes g))
group-ends [] a = absurd (group-begins [] a.is-group)
group-ends (r ∷ rs) a = kept-end r rs a.kept

groups-end : (gs : List (List Record)) → All GoodGroup gs → All (λ bs. T (ends_in_lf bs)) (parts_of gs)
unfolding parts_of
groups-end [] a = tt
groups-end (g ∷ gs) a = (group-ends g a.0, groups-end gs a.1)

pub parts-of : (file : Bytes) (s : Summary) → judge file ≡ fine s → FileParts file
unfolding header_lines group_parts record_bytes
parts-of file s h =
    let d = decomposed file s h in
    let i = is-file file s h in
    record {
      header = i.enclosed.header;
      trailer = d.trailer;
      one-header = one-header file i;
      is-header = i.enclosed.is-header;
      is-trailer = d.is-trailer;
      records = d.records;
      bytes =
          sym (file-bytes file)
          ∙ ap record_bytes d.records
          ∙ bytes-append (header_in file) (concat (groups_in file) ++ (d.trailer ∷ []))
          ∙ rw (bytes-append (concat (groups_in file)) (d.trailer ∷ []), bytes-of-parts (groups_in file), append-nil (line_bytes d.trailer));
      header-ends = header-ends (header_in file) d.header.one d.header.kept;
      groups-end = groups-end (groups_in file) d.groups;
    }

module _ (file : Bytes) (s : Summary) (h : judge file ≡ fine s) where
  pub header-bytes : take (length (header_lines file)) file ≡ header_lines file
  header-bytes =
      let p = parts-of file s h in
      ap (λ (bs : Bytes). take (length (header_lines file)) bs) p.bytes ∙ take-append_seam (header_lines file) (concat (group_parts file) ++ line_bytes p.trailer)

  pub groups-bytes : take (length (concat (group_parts file))) (drop (length (header_lines file)) file) ≡ concat (group_parts file)
  groups-bytes =
      let p = parts-of file s h in
      ap (λ (bs : Bytes). take (length (concat (group_parts file))) (drop (length (header_lines file)) bs)) p.bytes
      ∙ middle (header_lines file) (concat (group_parts file)) (line_bytes p.trailer)

  -- all but the 99
  pub body_bytes : take (length (header_lines file) + length (concat (group_parts file))) file ≡ header_lines file ++ concat (group_parts file)
  body_bytes =
      let p = parts-of file s h in
      let body = header_lines file ++ concat (group_parts file) in
      let whole : file ≡ body ++ line_bytes p.trailer = p.bytes ∙ sym (append_assoc (header_lines file) (concat (group_parts file)) (line_bytes p.trailer)) in
      ap (λ (n : ℕ). take n file) (sym (length-append (header_lines file) (concat (group_parts file))))
      ∙ ap (λ (bs : Bytes). take (length body) bs) whole
      ∙ take-append_seam body (line_bytes p.trailer)

-- ---- the numbers of combine's fresh 99

-- a fresh 99 is written by total, groups and records alone
fresh-same : (a b : Summary) → a.sum ≡ b.sum → a.groups ≡ b.groups → a.records ≡ b.records → fresh_trailer a ≡ fresh_trailer b
unfolding fresh_trailer
fresh-same a b s g l = rw (s, g, l)

-- from the summaries s and t of the two files, the lines m of A's 99, and the lines n of B's 01 and 99
abbrev pub fresh_numbers : Summary → Summary → ℕ → ℕ → Summary
fresh_numbers s t m n =
    record {
      sum = s.sum ⊕ t.sum;
      groups = s.groups + t.groups;
      accounts = s.accounts + t.accounts;
      details = s.details + t.details;
      records = (s.records - m) + (t.records - n);
    }

numbers-same : (s t g h : Summary) (k m n : ℕ) → s ≡ g ⊞ only_lines (k + m) → t ≡ h ⊞ only_lines n → fresh_trailer (only_lines k ⊞ (g ⊞ h)) ≡ fresh_trailer (fresh_numbers s t m n)
unfolding ◌⊞◌
numbers-same s t g h k m n p q =
    rw (p, q)
    (fresh-same (only_lines k ⊞ (g ⊞ h)) (fresh_numbers (g ⊞ only_lines (k + m)) (h ⊞ only_lines n) m n)
    (same_sum (only_lines k ⊞ (g ⊞ h)).sum ((g ⊞ only_lines (k + m)).sum ⊕ (h ⊞ only_lines n).sum) (omega arith) (omega arith)) (omega arith) (omega arith))

sliced : (a b : Bytes) (s t : Summary) → judge a ≡ fine s → judge b ≡ fine t → (end : Bytes)
    → record_bytes (header_in a) ++ ((concat (parts_of (groups_in a)) ++ concat (parts_of (groups_in b))) ++ end)
    ≡ take (length (header_lines a) + length (concat (group_parts a))) a ++ (take (length (concat (group_parts b))) (drop (length (header_lines b)) b) ++ end)
unfolding header_lines group_parts
sliced a b s t p q end = rw (body_bytes a s p, groups-bytes b t q) (simp append_assoc)

pub by-slices : (a b : Bytes) (s t : Summary) → judge a ≡ fine s → judge b ≡ fine t → (d : Decomposed a) (e : Decomposed b)
    → with_trailer (header_in a ++ (concat (groups_in a) ++ concat (groups_in b)))
    ≡ take (length (header_lines a) + length (concat (group_parts a))) a
    ++ (take (length (concat (group_parts b))) (drop (length (header_lines b)) b) ++ fresh_trailer (fresh_numbers s t (length d.trailer) (header_count b + length e.trailer)))
by-slices a b s t p q d e =
    let gs = groups_in a ++ groups_in b in
    let ga = summary_of_all (concat (groups_in a)) in
    let gb = summary_of_all (concat (groups_in b)) in
    let n = header_count b + length e.trailer in
    let joins : concat gs ≡ concat (groups_in a) ++ concat (groups_in b) = concat-append (groups_in a) (groups_in b) in
    let adds : summary_of_all (header_in a ++ concat gs) ≡ only_lines (header_count a) ⊞ (ga ⊞ gb) =
    fresh-summary a d gs ∙ rw (joins, summary-append (concat (groups_in a)) (concat (groups_in b))) in
    let numbers : fresh_trailer (summary_of_all (header_in a ++ concat gs)) ≡ fresh_trailer (fresh_numbers s t (length d.trailer) n) =
    ap fresh_trailer adds ∙ numbers-same s t ga gb (header_count a) (length d.trailer) n (summary-of-groups a s p d) (summary-of-groups b t q e) in
    ap (λ (rs : List Record). with_trailer (header_in a ++ rs)) (sym joins)
    ∙ trailer-bytes (header_in a) gs
    ∙ rw (numbers, parts-append (groups_in a) (groups_in b), concat-append (parts_of (groups_in a)) (parts_of (groups_in b)))
    (sliced a b s t p q (fresh_trailer (fresh_numbers s t (length d.trailer) n)))
