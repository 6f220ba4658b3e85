-- The laws of combine and split, over what their calls say and over whole answers. Assumes nothing.
use Prim.Native.Nat.{ℕ, ◌+◌, ◌≤◌}
use mathlib.Core.Path.{◌≡◌, refl, sym, ap, ◌∙◌}
use mathlib.Core.List.{List, [], ◌∷◌, ◌++◌, append_assoc}
use native.Mathlib.Omega.{arith}
use lib.Dec.{T, leb, le→leb}
use lib.ListN.{length}
use Rattle.rules.specs.Bytes.{Bytes}
use Rattle.rules.specs.Lines.{Line, Record, record_bytes}
use Rattle.rules.specs.Numbers.{◌⊕◌, magnitudes}
use Rattle.rules.specs.Limits.{most}
use Rattle.rules.specs.Totals.{Summary, ◌⊞◌}
use Rattle.rules.specs.Parts.{header_in, groups_in}
use Rattle.rules.specs.Combine.{summary_of_all, concat, limit_of, lines_within, combined, which_file, combine}
use Rattle.rules.specs.Split.{is_name, groups_for, split_out, split}
use Rattle.rules.proofs.Tests.{is_true, and_left, and_right}
use Rattle.rules.proofs.Binds.{fine-same}
use Rattle.laws.specs.LawWords.{All, parts_of, only_lines}
use Rattle.laws.proofs.Lists.{concat-append}
use Rattle.laws.proofs.KeptBytes.{kept_same}
use Rattle.laws.proofs.Groups.{GoodGroup, decomposed}
use Rattle.laws.proofs.CallAnswers.{Combined, SplitOff}
use Rattle.laws.proofs.CombineSplit.{groups_add, header_count, ends_count, fresh-summary, summary-of-groups, combined-made, combined-summary, fewer, split-made, for-append}

-- ---- the bytes

pub split-combine-says : (name a b ab x y z w : Bytes) → Combined a b ab → SplitOff name ab x → SplitOff name a y → SplitOff name b z → Combined y z w → x ≡ w
split-combine-says name a b ab x y z w c s p q d =
    let m = combined-made a b ab c in
    let u = split-made name a y p in
    let v = split-made name b z q in
    s.whole ∙ rw (m.header, m.groups, for-append name (groups_in a) (groups_in b)) (sym (d.whole ∙ rw (u.header, u.groups, v.groups)))

pub combine-thrice-says : (a b c ab x bc y : Bytes) → Combined a b ab → Combined ab c x → Combined b c bc → Combined a bc y → x ≡ y
combine-thrice-says a b c ab x bc y p q r s =
    let m = combined-made a b ab p in
    let n = combined-made b c bc r in
    q.whole ∙ rw (m.header, m.groups, append_assoc (groups_in a) (groups_in b) (groups_in c)) (sym (s.whole ∙ rw n.groups))

-- good groups are known by their bytes
pub same_parts : (gs hs : List (List Record)) → All GoodGroup gs → All GoodGroup hs → parts_of gs ≡ parts_of hs → gs ≡ hs
unfolding parts_of
same_parts [] [] p q e = refl
same_parts [] (h ∷ hs) p q e = let z : ◌≡◌ {A = ℕ} 0 1 = cc in absurd (omega arith)
same_parts (g ∷ gs) [] p q e = let z : ◌≡◌ {A = ℕ} 0 1 = cc in absurd (omega arith)
same_parts (g ∷ gs) (h ∷ hs) p q e =
    let first : record_bytes g ≡ record_bytes h = cc in
    let rest : parts_of gs ≡ parts_of hs = cc in
    rw (kept_same g h p.0.kept q.0.kept first, same_parts gs hs p.1 q.1 rest)

-- ---- the whole answers of (i)

-- where two files leave room for each other, so do files split off them
fewer-room : (s t g h k l u v : Summary) (m n i j : ℕ) → s ≡ g ⊞ only_lines m → t ≡ h ⊞ only_lines n → u ≡ only_lines i ⊞ k → v ≡ only_lines j ⊞ l
    → magnitudes k.sum ≤ magnitudes g.sum → magnitudes l.sum ≤ magnitudes h.sum → magnitudes s.sum + magnitudes t.sum ≤ most
    → magnitudes (u ⊞ only_lines 1).sum + magnitudes (v ⊞ only_lines 1).sum ≤ most
unfolding ◌⊞◌
fewer-room s t g h k l u v m n i j p q e f x y r =
    let room : magnitudes (g ⊞ only_lines m).sum + magnitudes (h ⊞ only_lines n).sum ≤ most = rw (p, q) at r in
    rw (e, f) (omega arith)

pub same-split : (name a b ab y z o : Bytes) → Combined a b ab → SplitOff name a y → SplitOff name b z → split name ab o ≡ combine y z o
unfolding split split_out combine combined which_file
same-split name a b ab y z o c p q =
    let da = decomposed a c.first c.accepts-a in
    let db = decomposed b c.second c.accepts-b in
    let ga = groups_for name (groups_in a) in
    let gb = groups_for name (groups_in b) in
    let m = combined-made a b ab c in
    let u = split-made name a y p in
    let v = split-made name b z q in
    let fa = fewer (limit_of (header_in a)) name (groups_in a) in
    let fb = fewer (limit_of (header_in a)) name (groups_in b) in
    let sa = summary_of_all (header_in a ++ concat ga) in
    let sb = summary_of_all (header_in b ++ concat gb) in
    let room : magnitudes (sa ⊞ only_lines 1).sum + magnitudes (sb ⊞ only_lines 1).sum ≤ most =
    fewer-room c.first c.second (groups_add a) (groups_add b) (summary_of_all (concat ga)) (summary_of_all (concat gb)) sa sb
    (ends_count da) (ends_count db) (header_count a) (header_count b)
    (summary-of-groups a c.first c.accepts-a da) (summary-of-groups b c.second c.accepts-b db)
    (fresh-summary a da ga) (fresh-summary b db gb) fa.no_more fb.no_more c.room in
    rw (
      is_true (is_name name) p.is_name,
      m.accepted,
      u.accepted,
      v.accepted,
      is_true (leb (magnitudes (sa ⊞ only_lines 1).sum + magnitudes (sb ⊞ only_lines 1).sum) most) (le→leb _ most room),
      m.header,
      m.groups,
      u.header,
      u.groups,
      v.groups,
      is_true (lines_within (limit_of (header_in a)) (concat (concat gb))) (fb.lines-within c.within),
      for-append name (groups_in a) (groups_in b),
      concat-append ga gb,
    )

-- ---- the whole answers of (ii)

within-append : (limit : ℕ) (ls ms : List Line) → T (lines_within limit ls) → lines_within limit (ls ++ ms) ≡ lines_within limit ms
unfolding lines_within
within-append limit [] ms h = refl
within-append limit (l ∷ ls) ms h =
    let first = leb (length l.body) limit in
    rw (is_true first (and_left first (lines_within limit ls) h), within-append limit ls ms (and_right first (lines_within limit ls) h))

same-room : (s b t u v : Summary) → u.sum ≡ s.sum ⊕ b.sum → v.sum ≡ b.sum ⊕ t.sum → magnitudes u.sum + magnitudes t.sum ≡ magnitudes s.sum + magnitudes v.sum
same-room s b t u v p q = rw (p, q) (omega arith)

pub same-combine : (a b c ab bc o : Bytes) → Combined a b ab → Combined b c bc → combine ab c o ≡ combine a bc o
unfolding combine combined which_file
same-combine a b c ab bc o p q =
    let u = summary_of_all (header_in a ++ concat (groups_in a ++ groups_in b)) ⊞ only_lines 1 in
    let v = summary_of_all (header_in b ++ concat (groups_in b ++ groups_in c)) ⊞ only_lines 1 in
    let m = combined-made a b ab p in
    let n = combined-made b c bc q in
    let same : q.first ≡ p.second = fine-same q.first p.second (sym q.accepts-a ∙ p.accepts-b) in
    let room : magnitudes u.sum + magnitudes q.second.sum ≡ magnitudes p.first.sum + magnitudes v.sum =
    same-room p.first p.second q.second u v (combined-summary a b ab p).sum ((combined-summary b c bc q).sum ∙ ap (λ (x : Summary). x.sum ⊕ q.second.sum) same) in
    let lines : lines_within (limit_of (header_in a)) (concat (concat (groups_in b ++ groups_in c))) ≡ lines_within (limit_of (header_in a)) (concat (concat (groups_in c))) =
    ap (lines_within (limit_of (header_in a))) (ap concat (concat-append (groups_in b) (groups_in c)) ∙ concat-append (concat (groups_in b)) (concat (groups_in c)))
    ∙ within-append (limit_of (header_in a)) (concat (concat (groups_in b))) (concat (concat (groups_in c))) p.within in
    rw (
      m.accepted,
      n.accepted,
      p.accepts-a,
      q.accepts-b,
      room,
      m.header,
      m.groups,
      n.groups,
      lines,
      concat-append (groups_in a) (groups_in b),
      concat-append (groups_in b) (groups_in c),
      append_assoc (concat (groups_in a)) (concat (groups_in b)) (concat (groups_in c)),
    )
