-- The theorems on combine and split, with the laws of demand 3. Assumes nothing.
-- An output slice is named o₁, o₂, .. or `before`; `NotRefused` says that the number of an answer is 0, `written` is what the call wrote.
use Prim.Native.Nat.{◌+◌, ◌≤◌}
use mathlib.Core.Path.{◌≡◌, refl, sym, ap, subst, ◌∙◌}
use mathlib.Core.Bool.{not}
use mathlib.Core.List.{List, ◌++◌}
use lib.Dec.{T}
use lib.ListN.{length, take, drop}
use Rattle.rules.specs.Bytes.{Bytes}
use Rattle.rules.specs.Outcome.{fine}
use Rattle.rules.specs.Lines.{Record, record_bytes}
use Rattle.rules.specs.Numbers.{magnitudes}
use Rattle.rules.specs.Limits.{most, longest_file}
use Rattle.rules.specs.Totals.{Summary, ◌⊞◌}
use Rattle.rules.specs.Verdict.{judge}
use Rattle.rules.specs.Parts.{header_in, groups_in}
use Rattle.rules.specs.Combine.{summary_of_all, fresh_trailer, with_trailer, limit_of, lines_within, concat, answered, combine}
use Rattle.rules.specs.Split.{is_name, groups_for, split_out, split}
use Rattle.rules.proofs.Tests.{not-false}
use Rattle.rules.proofs.Binds.{fine-same}
use Rattle.laws.specs.LawWords.{NotRefused, written, parts_of, header_lines, group_parts, group_parts_for, All, only_lines, Assembled, CombinedParts, CombinedSummary, Exactly, SplitParts}
use Rattle.laws.proofs.KeptBytes.{kept_same, parts-append}
use Rattle.laws.proofs.Groups.{GoodGroup, Decomposed, decomposed, good-for}
use Rattle.laws.proofs.CallAnswers.{combine-says, split-call-says}
use Rattle.laws.proofs.CombineSplit.{assembled, header_count, combined-made, combined-summary, split-made, exactly}
use Rattle.laws.proofs.Demand3.{split-combine-says, combine-thrice-says, same_parts, same-split, same-combine}
use Rattle.laws.proofs.ForCode.{fresh_numbers, by-slices}

-- ---- files put together

-- an accepted file's header, good groups of any files (`groups-good`), and a fresh 99 are an accepted file with this header, these groups and the summary that
-- they give, where their lines respect the header's limit, their magnitudes are within the largest, and the whole is not too long
pub assembly : (file : Bytes) (s : Summary) (gs : List (List Record)) → judge file ≡ fine s → All GoodGroup gs
    → T (lines_within (limit_of (header_in file)) (concat (concat gs)))
    → magnitudes (summary_of_all (header_in file ++ concat gs)).sum ≤ most
    → length (with_trailer (header_in file ++ concat gs)) ≤ longest_file
    → Assembled file gs (with_trailer (header_in file ++ concat gs))
assembly file s gs h good within bounded not-long =
    assembled file (decomposed file s h) gs (with_trailer (header_in file ++ concat gs)) refl good within bounded not-long

-- ---- what combine and split write

-- combining gives the first file's header, its groups, then the second's
pub combine-parts : (a b before : Bytes) → NotRefused (combine a b before) → CombinedParts a b (written (combine a b before))
unfolding header_lines group_parts
combine-parts a b before h =
    let m = combined-made a b (written (combine a b before)) (combine-says a b before h) in
    record {
      header = ap record_bytes m.header;
      groups = ap parts_of m.groups ∙ parts-append (groups_in a) (groups_in b);
      exactly-those = m.groups;
      bytes = m.bytes ∙ rw (parts-append (groups_in a) (groups_in b));
    }

-- splitting keeps the header and exactly the groups whose receiver equals the name byte for byte
pub split_parts : (name file before : Bytes) → NotRefused (split name file before) → SplitParts name file (written (split name file before))
unfolding header_lines group_parts group_parts_for
split_parts name file before h =
    let m = split-made name file (written (split name file before)) (split-call-says name file before h) in
    record {
      header = ap record_bytes m.header;
      groups = ap parts_of m.groups;
      exactly-those = subst (Exactly name (groups_in file)) (sym m.groups) (exactly name (groups_in file));
      bytes = m.bytes;
    }

-- what combine wrote is accepted; its total and counts are those of the two files together
pub combine-accepted : (a b before : Bytes) (s t : Summary) → judge a ≡ fine s → judge b ≡ fine t
    → NotRefused (combine a b before)
    → (u : Summary) × (judge (written (combine a b before)) ≡ fine u) × CombinedSummary a b s t u
combine-accepted a b before s t p q h =
    let c = combine-says a b before h in
    let u = summary_of_all (header_in a ++ concat (groups_in a ++ groups_in b)) ⊞ only_lines 1 in
    let same_s : c.first ≡ s = fine-same c.first s (sym c.accepts-a ∙ p) in
    let same-t : c.second ≡ t = fine-same c.second t (sym c.accepts-b ∙ q) in (
      u,
      (combined-made a b (written (combine a b before)) c).accepted,
      subst (λ (x : Summary). CombinedSummary a b x t u) same_s
          (subst (λ (y : Summary). CombinedSummary a b c.first y u) same-t (combined-summary a b (written (combine a b before)) c)),
    )

-- what split wrote is accepted; its summary is what the header and the groups for the name add, and one record more
pub split-accepted : (name file before : Bytes)
    → NotRefused (split name file before)
    → judge (written (split name file before)) ≡ fine (summary_of_all (header_in file ++ concat (groups_for name (groups_in file))) ⊞ only_lines 1)
split-accepted name file before h = (split-made name file (written (split name file before)) (split-call-says name file before h)).accepted

-- ---- the laws of demand 3

-- (i) splitting a combination gives the same bytes as combining the splits
pub split-of-combine : (name a b o₁ o₂ o₃ o₄ o₅ : Bytes)
    → NotRefused (combine a b o₁)
    → NotRefused (split name (written (combine a b o₁)) o₂)
    → NotRefused (split name a o₃)
    → NotRefused (split name b o₄)
    → NotRefused (combine (written (split name a o₃)) (written (split name b o₄)) o₅)
    → written (split name (written (combine a b o₁)) o₂) ≡ written (combine (written (split name a o₃)) (written (split name b o₄)) o₅)
split-of-combine name a b o₁ o₂ o₃ o₄ o₅ h₁ h₂ h₃ h₄ h₅ =
    split-combine-says name a b _ _ _ _ _ (combine-says a b o₁ h₁) (split-call-says name _ o₂ h₂) (split-call-says name a o₃ h₃) (split-call-says name b o₄ h₄)
    (combine-says _ _ o₅ h₅)

-- (ii) combining three files gives the same bytes however they are bracketed
pub combine-thrice : (a b c o₁ o₂ o₃ o₄ : Bytes)
    → NotRefused (combine a b o₁)
    → NotRefused (combine (written (combine a b o₁)) c o₂)
    → NotRefused (combine b c o₃)
    → NotRefused (combine a (written (combine b c o₃)) o₄)
    → written (combine (written (combine a b o₁)) c o₂) ≡ written (combine a (written (combine b c o₃)) o₄)
combine-thrice a b c o₁ o₂ o₃ o₄ h₁ h₂ h₃ h₄ =
    combine-thrice-says a b c _ _ _ _ (combine-says a b o₁ h₁) (combine-says _ c o₂ h₂) (combine-says b c o₃ h₃) (combine-says a _ o₄ h₄)

-- more than (i) and (ii): into one output slice both ways give the same whole answer, also where it is a refusal
pub split-of-combine-answers : (name a b o₁ o₂ o₃ o : Bytes)
    → NotRefused (combine a b o₁)
    → NotRefused (split name a o₂)
    → NotRefused (split name b o₃)
    → split name (written (combine a b o₁)) o ≡ combine (written (split name a o₂)) (written (split name b o₃)) o
split-of-combine-answers name a b o₁ o₂ o₃ o h₁ h₂ h₃ =
    same-split name a b _ _ _ o (combine-says a b o₁ h₁) (split-call-says name a o₂ h₂) (split-call-says name b o₃ h₃)

pub combine-thrice-answers : (a b c o₁ o₂ o : Bytes)
    → NotRefused (combine a b o₁)
    → NotRefused (combine b c o₂)
    → combine (written (combine a b o₁)) c o ≡ combine a (written (combine b c o₂)) o
combine-thrice-answers a b c o₁ o₂ o h₁ h₂ = same-combine a b c _ _ o (combine-says a b o₁ h₁) (combine-says b c o₂ h₂)

-- (iii) two accepted files with the same header lines and the same groups for a name, byte for byte and in the same order, give for it, into
-- equal output slices, the same answer, refusals included, and leave those slices equal (`output` is a field of the answer). No premise asks
-- that the name is valid: for one that isn't, both answers are the same refusal 16 (`split-bad-name`)
pub split-by-name : (name a b before : Bytes) (s t : Summary) → judge a ≡ fine s → judge b ≡ fine t
    → header_lines a ≡ header_lines b
    → group_parts_for name a ≡ group_parts_for name b
    → split name a before ≡ split name b before
unfolding split split_out header_lines group_parts_for
split-by-name name a b before s t p q h g =
    let c = decomposed a s p in
    let d = decomposed b t q in
    let header : header_in a ≡ header_in b = kept_same (header_in a) (header_in b) c.header.kept d.header.kept h in
    let groups : groups_for name (groups_in a) ≡ groups_for name (groups_in b) =
    same_parts (groups_for name (groups_in a)) (groups_for name (groups_in b)) (good-for name (groups_in a) c.groups) (good-for name (groups_in b) d.groups) g in
    rw (p, q, header, groups)

-- a name that is not valid is refused by 16, whatever the file, and the output slice stays
pub split-bad-name : (name file before : Bytes) → T (not (is_name name)) → split name file before ≡ record { refusal = record { number = 16; place = 0 }; which = 0; len = 0; output = before }
unfolding split split_out answered
split-bad-name name file before n = rw (not-false (is_name name) n)

-- ---- for the code

-- the combined file is A up to its 99, B from after its header up to its 99, and a fresh 99 with these numbers: totals and groups of both, and
-- the lines of both less those of A's 99 and of B's 01 and 99
pub combined-by-slices : (a b : Bytes) (s t : Summary) → judge a ≡ fine s → judge b ≡ fine t → (d : Decomposed a) (e : Decomposed b)
    → with_trailer (header_in a ++ (concat (groups_in a) ++ concat (groups_in b)))
    ≡ take (length (header_lines a) + length (concat (group_parts a))) a
    ++ (take (length (concat (group_parts b))) (drop (length (header_lines b)) b) ++ fresh_trailer (fresh_numbers s t (length d.trailer) (header_count b + length e.trailer)))
combined-by-slices a b s t p q d e = by-slices a b s t p q d e
