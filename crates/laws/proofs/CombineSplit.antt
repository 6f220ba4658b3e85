-- What combine and split write: a header, groups, bytes unchanged, and a fresh 99; accepted, with the summary that one expects. Assumes nothing.
use Prim.Native.Nat.{ℕ, ◌+◌, ◌≤◌}
use mathlib.Core.Path.{◌≡◌, refl, sym, ap, subst, ◌∙◌}
use mathlib.Core.Bool.{Bool, true, false, cond}
use mathlib.Core.List.{List, [], ◌∷◌, ◌++◌, append_assoc}
use native.Mathlib.Omega.{arith}
use lib.Dec.{T, T_not}
use lib.ListN.{length, length-append}
use Rattle.rules.specs.Bytes.{Bytes, same_bytes}
use Rattle.rules.specs.Outcome.{fine}
use Rattle.rules.specs.Lines.{Line, Record, record_bytes, file_records}
use Rattle.rules.specs.Numbers.{◌⊕◌, magnitudes}
use Rattle.rules.specs.Limits.{most, longest_file}
use Rattle.rules.specs.Totals.{Summary, ◌⊞◌}
use Rattle.rules.specs.Verdict.{judge}
use Rattle.rules.specs.Parts.{header_in, groups_in, receiver_of}
use Rattle.rules.specs.Combine.{summary_of, summary_of_all, fresh_trailer, with_trailer, lines_within, limit_of, concat}
use Rattle.rules.specs.Split.{groups_for}
use Rattle.rules.proofs.Tests.{Known, holds, fails, known, same-eq}
use Rattle.laws.specs.LawWords.{All, parts_of, header_lines, only_lines, Assembled, CombinedSummary, Exactly, nothing, kept, left_out}
use Rattle.laws.proofs.Lists.{all_both, concat-append}
use Rattle.laws.proofs.Codes.{same_refl}
use Rattle.laws.proofs.SummarySums.{same_sum, same-summary, add_none, summary-append, within-left, within-right, within_both}
use Rattle.laws.proofs.KeptBytes.{bytes-append, bytes-of-parts}
use Rattle.laws.proofs.Groups.{GoodGroup, Decomposed, decomposed, summary-is, good-for}
use Rattle.laws.proofs.Assembly.{assembled-header, assembled-groups, assembled-accepted}
use Rattle.laws.proofs.CallAnswers.{Combined, SplitOff}

-- ---- a header, groups and a fresh 99

pub trailer-bytes : (hs : List Record) (gs : List (List Record))
    → with_trailer (hs ++ concat gs) ≡ record_bytes hs ++ (concat (parts_of gs) ++ fresh_trailer (summary_of_all (hs ++ concat gs)))
unfolding with_trailer
trailer-bytes hs gs =
    rw (bytes-append hs (concat gs), bytes-of-parts gs) (append_assoc (record_bytes hs) (concat (parts_of gs)) (fresh_trailer (summary_of_all (hs ++ concat gs))))

pub assembled : (file : Bytes) (d : Decomposed file) (gs : List (List Record)) (out : Bytes) → out ≡ with_trailer (header_in file ++ concat gs) → All GoodGroup gs
    → T (lines_within (limit_of (header_in file)) (concat (concat gs)))
    → magnitudes (summary_of_all (header_in file ++ concat gs)).sum ≤ most
    → length out ≤ longest_file
    → Assembled file gs out
unfolding header_lines
assembled file d gs out whole good within bounded not-long =
    record {
      header = ap header_in whole ∙ assembled-header (header_in file) gs d.header good;
      groups = ap groups_in whole ∙ assembled-groups (header_in file) gs d.header good;
      bytes = whole ∙ trailer-bytes (header_in file) gs;
      accepted = ap judge whole ∙ assembled-accepted (header_in file) gs d.header good within bounded (subst (λ (bs : Bytes). length bs ≤ longest_file) whole not-long);
    }

-- ---- summaries: what groups add, and the lines of header and 99

-- what a file's groups add; the lines of its header, and with those of its 99
abbrev pub groups_add : Bytes → Summary
groups_add file = summary_of_all (concat (groups_in file))

abbrev pub header_count : Bytes → ℕ
header_count file = length (concat (header_in file))

abbrev pub ends_count : {file : Bytes} → Decomposed file → ℕ
ends_count {file} d = header_count file + length d.trailer

pub fresh-summary : (file : Bytes) (d : Decomposed file) (gs : List (List Record))
    → summary_of_all (header_in file ++ concat gs) ≡ only_lines (header_count file) ⊞ summary_of_all (concat gs)
fresh-summary file d gs = summary-append (header_in file) (concat gs) ∙ ap (λ (s : Summary). s ⊞ summary_of_all (concat gs)) d.header.adds

between-lines : (m n : ℕ) (g : Summary) → only_lines m ⊞ (g ⊞ only_lines n) ≡ g ⊞ only_lines (m + n)
unfolding ◌⊞◌
between-lines m n g =
    same-summary (only_lines m ⊞ (g ⊞ only_lines n)) (g ⊞ only_lines (m + n)) (omega arith) (omega arith) (omega arith) (omega arith) (omega arith) (omega arith)

all-summary : (file : Bytes) (d : Decomposed file) → summary_of_all (file_records file) ≡ groups_add file ⊞ only_lines (ends_count d)
unfolding summary_of_all
all-summary file d =
    ap summary_of_all d.records
    ∙ summary-append (header_in file) (concat (groups_in file) ++ (d.trailer ∷ []))
    ∙ rw (d.header.adds, summary-append (concat (groups_in file)) (d.trailer ∷ []), add_none (summary_of d.trailer), d.trailer-adds)
    (between-lines (header_count file) (length d.trailer) (groups_add file))

pub summary-of-groups : (file : Bytes) (s : Summary) → judge file ≡ fine s → (d : Decomposed file) → s ≡ groups_add file ⊞ only_lines (ends_count d)
summary-of-groups file s h d = summary-is file s h ∙ all-summary file d

-- ---- combine

combined-numbers : (s t g h u : Summary) (m n k : ℕ) → s ≡ g ⊞ only_lines m → t ≡ h ⊞ only_lines n → u ≡ (only_lines k ⊞ (g ⊞ h)) ⊞ only_lines 1
    → (u.sum ≡ s.sum ⊕ t.sum) × (u.groups ≡ s.groups + t.groups) × (u.accounts ≡ s.accounts + t.accounts)
    × (u.details ≡ s.details + t.details) × (u.records ≡ k + g.records + h.records + 1)
unfolding ◌⊞◌
combined-numbers s t g h u m n k p q r =
    rw (p, q, r) (
      same_sum ((only_lines k ⊞ (g ⊞ h)) ⊞ only_lines 1).sum ((g ⊞ only_lines m).sum ⊕ (h ⊞ only_lines n).sum) (omega arith) (omega arith),
      omega arith,
      omega arith,
      omega arith,
      omega arith,
    )

combined-room : (s t g h : Summary) (l m n : ℕ) → s ≡ g ⊞ only_lines m → t ≡ h ⊞ only_lines n → magnitudes s.sum + magnitudes t.sum ≤ most
    → magnitudes (only_lines l ⊞ (g ⊞ h)).sum ≤ most
unfolding ◌⊞◌
combined-room s t g h l m n p q r =
    let k : magnitudes (g ⊞ only_lines m).sum + magnitudes (h ⊞ only_lines n).sum ≤ most = rw (p, q) at r in
    omega arith

module _ (a b out : Bytes) (c : Combined a b out) where
  a-parts : Decomposed a
  a-parts = decomposed a c.first c.accepts-a

  b-parts : Decomposed b
  b-parts = decomposed b c.second c.accepts-b

  both-within : T (lines_within (limit_of (header_in a)) (concat (concat (groups_in a ++ groups_in b))))
  both-within =
      subst (λ (ls : List Line). T (lines_within (limit_of (header_in a)) ls))
      (sym (ap concat (concat-append (groups_in a) (groups_in b)) ∙ concat-append (concat (groups_in a)) (concat (groups_in b))))
      (within_both (limit_of (header_in a)) (concat (concat (groups_in a))) (concat (concat (groups_in b))) a-parts.within c.within)

  both-summary : summary_of_all (header_in a ++ concat (groups_in a ++ groups_in b)) ≡ only_lines (header_count a) ⊞ (groups_add a ⊞ groups_add b)
  both-summary =
      fresh-summary a a-parts (groups_in a ++ groups_in b)
      ∙ ap (λ (s : Summary). only_lines (header_count a) ⊞ s) (ap summary_of_all (concat-append (groups_in a) (groups_in b)) ∙ summary-append (concat (groups_in a)) (concat (groups_in b)))

  both-bounded : magnitudes (summary_of_all (header_in a ++ concat (groups_in a ++ groups_in b))).sum ≤ most
  both-bounded =
      rw both-summary
      (combined-room c.first c.second (groups_add a) (groups_add b) (header_count a) (ends_count a-parts) (ends_count b-parts)
      (summary-of-groups a c.first c.accepts-a a-parts) (summary-of-groups b c.second c.accepts-b b-parts) c.room)

  pub combined-made : Assembled a (groups_in a ++ groups_in b) out
  combined-made =
      assembled a a-parts (groups_in a ++ groups_in b) out c.whole
      (all_both GoodGroup (groups_in a) (groups_in b) a-parts.groups b-parts.groups) both-within both-bounded c.not-long

  pub combined-summary : CombinedSummary a b c.first c.second (summary_of_all (header_in a ++ concat (groups_in a ++ groups_in b)) ⊞ only_lines 1)
  combined-summary =
      let u = summary_of_all (header_in a ++ concat (groups_in a ++ groups_in b)) ⊞ only_lines 1 in
      let numbers = combined-numbers c.first c.second (groups_add a) (groups_add b) u (ends_count a-parts) (ends_count b-parts) (header_count a)
      (summary-of-groups a c.first c.accepts-a a-parts) (summary-of-groups b c.second c.accepts-b b-parts) (ap (λ (s : Summary). s ⊞ only_lines 1) both-summary) in
      let header-lines : (summary_of_all (header_in a)).records ≡ header_count a = ap (λ (s : Summary). s.records) a-parts.header.adds in
      record { sum = numbers.0; groups = numbers.1; accounts = numbers.2; details = numbers.3; records = numbers.4 ∙ omega (arith, header-lines) }

-- ---- split

lines-of : (g : List Record) (gs : List (List Record)) → concat (concat (g ∷ gs)) ≡ concat g ++ concat (concat gs)
unfolding concat
lines-of g gs = concat-append g (concat gs)

sum_of : (g : List Record) (gs : List (List Record)) → summary_of_all (concat (g ∷ gs)) ≡ summary_of_all g ⊞ summary_of_all (concat gs)
unfolding concat
sum_of g gs = summary-append g (concat gs)

bytes_of : (g : List Record) (gs : List (List Record)) → length (record_bytes (concat (g ∷ gs))) ≡ length (record_bytes g) + length (record_bytes (concat gs))
unfolding concat
bytes_of g gs = ap length (bytes-append g (concat gs)) ∙ length-append (record_bytes g) (record_bytes (concat gs))

-- fewer groups: their lines are within the limit, their magnitudes no more, and their bytes no more
pub record Fewer (limit : ℕ) (gs hs : List (List Record)) : Type 0 where
  pub lines-within : T (lines_within limit (concat (concat gs))) → T (lines_within limit (concat (concat hs)))
  pub no_more : magnitudes (summary_of_all (concat hs)).sum ≤ magnitudes (summary_of_all (concat gs)).sum
  pub no_longer : length (record_bytes (concat hs)) ≤ length (record_bytes (concat gs))

module _ (limit : ℕ) (g : List Record) (gs hs : List (List Record)) (f : Fewer limit gs hs) where
  lines-apart : T (lines_within limit (concat (concat (g ∷ gs)))) → T (lines_within limit (concat g ++ concat (concat gs)))
  lines-apart w = subst (λ (ls : List Line). T (lines_within limit ls)) (lines-of g gs) w

  fewer-next : (t : Bool) → Fewer limit (g ∷ gs) (cond t (g ∷ hs) hs)
  unfolding ◌⊞◌
  fewer-next true =
      record {
        lines-within = λ w.
            subst (λ (ls : List Line). T (lines_within limit ls)) (sym (lines-of g hs))
            (within_both limit (concat g) (concat (concat hs)) (within-left limit (concat g) (concat (concat gs)) (lines-apart w))
            (f.lines-within (within-right limit (concat g) (concat (concat gs)) (lines-apart w))));
        no_more = rw (sum_of g gs, sum_of g hs) (omega (arith, f.no_more));
        no_longer = omega (arith, bytes_of g gs, bytes_of g hs, f.no_longer);
      }
  fewer-next false =
      record {
        lines-within = λ w. f.lines-within (within-right limit (concat g) (concat (concat gs)) (lines-apart w));
        no_more = rw (sum_of g gs) (omega (arith, f.no_more));
        no_longer = omega (arith, bytes_of g gs, f.no_longer);
      }

pub fewer : (limit : ℕ) (name : Bytes) (gs : List (List Record)) → Fewer limit gs (groups_for name gs)
unfolding groups_for
fewer limit name [] = record { lines-within = λ w. w; no_more = omega arith; no_longer = omega arith }
fewer limit name (g ∷ gs) = fewer-next limit g gs (groups_for name gs) (fewer limit name gs) (same_bytes name (receiver_of g))

fewer-bounded : (g h all : Summary) (m n : ℕ) → all ≡ g ⊞ only_lines n → magnitudes h.sum ≤ magnitudes g.sum → magnitudes all.sum ≤ most
    → magnitudes (only_lines m ⊞ h).sum ≤ most
unfolding ◌⊞◌
fewer-bounded g h all m n e l b =
    let k : magnitudes (g ⊞ only_lines n).sum ≤ most = rw e at b in
    omega arith

pub split-made : (name file out : Bytes) → SplitOff name file out → Assembled file (groups_for name (groups_in file)) out
split-made name file out c =
    let d = decomposed file c.summary c.accepts in
    let gs = groups_for name (groups_in file) in
    let f = fewer (limit_of (header_in file)) name (groups_in file) in
    assembled file d gs out c.whole (good-for name (groups_in file) d.groups) (f.lines-within d.within)
    (rw (fresh-summary file d gs)
    (fewer-bounded (groups_add file) (summary_of_all (concat gs)) (summary_of_all (file_records file)) (header_count file) (ends_count d) (all-summary file d) f.no_more d.bounded))
    c.not-long

-- ---- groups for a name

pub for-append : (name : Bytes) (gs hs : List (List Record)) → groups_for name (gs ++ hs) ≡ groups_for name gs ++ groups_for name hs
unfolding groups_for
for-append name [] hs = refl
for-append name (g ∷ gs) hs = either (same_bytes name (receiver_of g)) (for-append name gs hs)
  where
    either : (t : Bool) → groups_for name (gs ++ hs) ≡ groups_for name gs ++ groups_for name hs
        → cond t (g ∷ groups_for name (gs ++ hs)) (groups_for name (gs ++ hs)) ≡ cond t (g ∷ groups_for name gs) (groups_for name gs) ++ groups_for name hs
    either true ih = rw ih
    either false ih = ih

differs : (name r : Bytes) → same_bytes name r ≡ false → ¬ (r ≡ name)
differs name r e same = T_not (same_bytes name r) (rw e tt) (subst (λ (x : Bytes). T (same_bytes name x)) (sym same) (same_refl name))

exactly-next : (name : Bytes) (g : List Record) (gs : List (List Record)) → Exactly name gs (groups_for name gs)
    → Known (same_bytes name (receiver_of g)) → Exactly name (g ∷ gs) (groups_for name (g ∷ gs))
unfolding groups_for
exactly-next name g gs ih (holds e) = rw e (kept (sym (same-eq name (receiver_of g) (rw e tt))) ih)
exactly-next name g gs ih (fails e) = rw e (left_out (differs name (receiver_of g) e) ih)

pub exactly : (name : Bytes) (gs : List (List Record)) → Exactly name gs (groups_for name gs)
unfolding groups_for
exactly name [] = nothing
exactly name (g ∷ gs) = exactly-next name g gs (exactly name gs) (known (same_bytes name (receiver_of g)))
