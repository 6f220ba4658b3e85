-- A good header, good groups and a fresh 99 put together are an accepted file with this header and these groups. Assumes nothing.
use Prim.Native.Nat.{ℕ, ◌+◌, ◌≤◌}
use mathlib.Core.Path.{◌≡◌, refl, sym, ap, subst, ◌∙◌}
use mathlib.Core.Bool.{Bool, true, false, cond, not}
use mathlib.Core.List.{List, [], ◌∷◌, ◌++◌, append_assoc}
use mathlib.Core.Option.{Option, none, some}
use native.Mathlib.Omega.{arith}
use lib.Dec.{T}
use lib.ListN.{length, length-append}
use Rattle.rules.specs.Bytes.{Bytes, is_empty}
use Rattle.rules.specs.Outcome.{fine}
use Rattle.rules.specs.Lines.{Line, Code, group_header, same_code, code_of, Record, record_bytes, file_records}
use Rattle.rules.specs.Numbers.{magnitudes}
use Rattle.rules.specs.Limits.{most, longest_file}
use Rattle.rules.specs.Totals.{Summary, ◌⊞◌, one, adding, of_record}
use Rattle.rules.specs.Verdict.{start, run, judge}
use Rattle.rules.specs.Parts.{Parts, in_groups, header_in, groups_in, size_of_all}
use Rattle.rules.specs.Combine.{of_coded, summary_of, summary_of_all, fresh_trailer, with_trailer, lines_within, limit_of, concat}
use Rattle.rules.proofs.RunLaws.{run-append}
use Rattle.rules.proofs.Accepted.{accepted-again}
use Rattle.laws.specs.LawWords.{All, between, only_lines, Begins, Kept}
use Rattle.laws.proofs.Lists.{all_from, concat-append}
use Rattle.laws.proofs.PartCuts.{group_codes, cut-groups}
use Rattle.laws.proofs.Envelopes.{group-begins}
use Rattle.laws.proofs.SummarySums.{add_none, add-regroup, summary-append, within-left, within-right}
use Rattle.laws.proofs.WholeLines.{no-more-lines}
use Rattle.laws.proofs.KeptBytes.{kept-stay, kept-both, bytes-joined}
use Rattle.laws.proofs.RunsOfRecords.{run-one}
use Rattle.laws.proofs.Fresh99.{trailer_line, trailer-record, trailer-fresh, trailer-heads, after_trailer, trailer-step}
use Rattle.laws.proofs.Groups.{GoodGroup, OneHeader, GoodHeader, good-kept}

-- ---- there are no more records than lines, and no more groups

one-most : (c d : Code) → one c d ≤ 1
one-most c d = go (same_code c d)
  where
    go : (t : Bool) → cond t 1 0 ≤ 1
    go true = omega arith
    go false = omega arith

record Few (lines : ℕ) (s : Summary) : Type 0 where
  few-lines : s.records ≤ lines
  few-groups : s.groups ≤ lines

few-coded : (o : Option Code) (l : Line) (ls : List Line) → Few (length (l ∷ ls)) (of_coded o (l ∷ ls))
unfolding of_coded of_record adding
few-coded none l ls = record { few-lines = omega arith; few-groups = omega arith }
few-coded (some c) l ls = record { few-lines = omega arith; few-groups = omega (arith, one-most c group_header) }

few-record : (r : Record) → Few (length r) (summary_of r)
unfolding summary_of
few-record [] = record { few-lines = omega arith; few-groups = omega arith }
few-record (l ∷ ls) = few-coded (code_of l) l ls

few : (rs : List Record) → Few (length (concat rs)) (summary_of_all rs)
unfolding concat summary_of_all ◌⊞◌
few [] = record { few-lines = omega arith; few-groups = omega arith }
few (r ∷ rs) =
    let a = few-record r in
    let b = few rs in
    record { few-lines = simp length-append (omega (arith, a.few-lines, b.few-lines)); few-groups = simp length-append (omega (arith, a.few-groups, b.few-groups)) }

-- ---- good groups run one after the other

two_runs : (g rs : List Record) (p limit : ℕ) (file : Summary) → magnitudes file.sum + magnitudes (summary_of_all g ⊞ summary_of_all rs).sum ≤ most
    → (magnitudes file.sum + magnitudes (summary_of_all g).sum ≤ most → run p (between limit file) g ≡ fine (between limit (file ⊞ summary_of_all g)))
    → (magnitudes (file ⊞ summary_of_all g).sum + magnitudes (summary_of_all rs).sum ≤ most
    → run (p + size_of_all g) (between limit (file ⊞ summary_of_all g)) rs ≡ fine (between limit ((file ⊞ summary_of_all g) ⊞ summary_of_all rs)))
    → run p (between limit file) (g ++ rs) ≡ fine (between limit (file ⊞ (summary_of_all g ⊞ summary_of_all rs)))
unfolding ◌⊞◌
two_runs g rs p limit file room first rest =
    run-append p (between limit file) g rs
    ∙ rw (first (omega arith)) (rest (omega arith) ∙ ap (λ (f : Summary). fine (between limit f)) (add-regroup file (summary_of_all g) (summary_of_all rs)))

groups-run : (gs : List (List Record)) → All GoodGroup gs → (p limit : ℕ) (file : Summary) → T (lines_within limit (concat (concat gs)))
    → magnitudes file.sum + magnitudes (summary_of_all (concat gs)).sum ≤ most
    → run p (between limit file) (concat gs) ≡ fine (between limit (file ⊞ summary_of_all (concat gs)))
unfolding run concat summary_of_all
groups-run [] a p limit file w room = rw add_none
groups-run (g ∷ gs) a p limit file w room =
    let w' : T (lines_within limit (concat g ++ concat (concat gs))) = subst (λ (ls : List Line). T (lines_within limit ls)) (concat-append g (concat gs)) w in
    let e : summary_of_all (g ++ concat gs) ≡ summary_of_all g ⊞ summary_of_all (concat gs) = summary-append g (concat gs) in
    let room' : magnitudes file.sum + magnitudes (summary_of_all g ⊞ summary_of_all (concat gs)).sum ≤ most = rw e at room in
    two_runs g (concat gs) p limit file room' (a.0.runs-anywhere p limit file (within-left limit (concat g) (concat (concat gs)) w'))
    (λ k. groups-run gs a.1 (p + size_of_all g) limit (file ⊞ summary_of_all g) (within-right limit (concat g) (concat (concat gs)) w') k)
    ∙ ap (λ (f : Summary). fine (between limit (file ⊞ f))) (sym e)

-- ---- its records, header and groups

not-empty : (bs : Bytes) (c : ℕ) (cs : Bytes) → T (not (is_empty (bs ++ (c ∷ cs))))
unfolding is_empty
not-empty [] c cs = tt
not-empty (b ∷ bs) c cs = tt

in-room : (a b : Summary) → magnitudes (a ⊞ b).sum ≤ most → magnitudes a.sum + magnitudes b.sum ≤ most
unfolding ◌⊞◌
in-room a b h = omega arith

cut-assembled : (hs : List Record) (gs : List (List Record)) (s : Summary) → OneHeader hs → All GoodGroup gs
    → in_groups (hs ++ (concat gs ++ ((trailer_line s ∷ []) ∷ []))) ≡ record { waiting = hs; parts = gs }
cut-assembled [] gs s one good = absurd one
cut-assembled (h ∷ q ∷ rs) gs s one good = absurd one
cut-assembled (h ∷ []) gs s one good =
    cut-groups h gs (trailer_line s ∷ []) one (all_from (Begins group_header group_codes) GoodGroup (λ g a. group-begins g a.is-group) gs good) (trailer-heads s)

module _ (hs : List Record) (gs : List (List Record)) (head : GoodHeader hs) (good : All GoodGroup gs) where
  all-kept : Kept (hs ++ concat gs)
  all-kept = kept-both hs (concat gs) head.kept (good-kept gs good)

  assembled-records : file_records (with_trailer (hs ++ concat gs)) ≡ hs ++ (concat gs ++ ((trailer_line (summary_of_all (hs ++ concat gs)) ∷ []) ∷ []))
  unfolding with_trailer
  assembled-records =
      let s = summary_of_all (hs ++ concat gs) in
      kept-stay (hs ++ concat gs) (fresh_trailer s) all-kept (trailer-fresh s) ∙ rw (trailer-record s) (append_assoc hs (concat gs) ((trailer_line s ∷ []) ∷ []))

  assembled-cuts : in_groups (file_records (with_trailer (hs ++ concat gs))) ≡ record { waiting = hs; parts = gs }
  assembled-cuts = rw assembled-records (cut-assembled hs gs (summary_of_all (hs ++ concat gs)) head.one good)

  pub assembled-header : header_in (with_trailer (hs ++ concat gs)) ≡ hs
  unfolding header_in
  assembled-header = ap (λ (p : Parts). p.waiting) assembled-cuts

  pub assembled-groups : groups_in (with_trailer (hs ++ concat gs)) ≡ gs
  unfolding groups_in
  assembled-groups = ap (λ (p : Parts). p.parts) assembled-cuts

  -- ---- it has no more lines than bytes, and no more groups

  abbrev rs : List Record
  rs = hs ++ concat gs

  few-in-bytes : length (concat rs) ≤ length (record_bytes rs)
  few-in-bytes = let least = no-more-lines (concat rs) all-kept.wholes in let same = ap length (bytes-joined rs) in omega arith

  pub few-groups-in : (summary_of_all rs).groups ≤ length (record_bytes rs)
  few-groups-in = omega (arith, (few rs).few-groups, few-in-bytes)

  pub few-lines-in : (summary_of_all rs).records ≤ length (record_bytes rs)
  few-lines-in = omega (arith, (few rs).few-lines, few-in-bytes)

  -- ---- it is accepted

  module _ (within : T (lines_within (limit_of hs) (concat (concat gs)))) (bounded : magnitudes (summary_of_all (hs ++ concat gs)).sum ≤ most)
      (not-long : length (with_trailer (hs ++ concat gs)) ≤ longest_file) where
    not-longer : length (record_bytes rs) ≤ longest_file
    unfolding with_trailer
    not-longer = omega (arith, subst (λ (n : ℕ). n ≤ longest_file) (length-append (record_bytes rs) (fresh_trailer (summary_of_all rs))) not-long)

    all-run : run 0 start (hs ++ (concat gs ++ ((trailer_line (summary_of_all (hs ++ concat gs)) ∷ []) ∷ [])))
        ≡ fine (after_trailer (limit_of hs) (summary_of_all (hs ++ concat gs) ⊞ only_lines 1))
    all-run =
        let s = summary_of_all (hs ++ concat gs) in
        let t = trailer_line s ∷ [] in
        let e : s ≡ summary_of_all hs ⊞ summary_of_all (concat gs) = summary-append hs (concat gs) in
        let room : magnitudes (summary_of_all hs).sum + magnitudes (summary_of_all (concat gs)).sum ≤ most =
        in-room (summary_of_all hs) (summary_of_all (concat gs)) (rw e at bounded) in
        let ended = run-one (0 + size_of_all hs + size_of_all (concat gs)) (between (limit_of hs) s) (after_trailer (limit_of hs) (s ⊞ only_lines 1)) t
        (trailer-step (limit_of hs) s head.roomy bounded (omega (arith, few-groups-in, not-longer)) (omega (arith, few-lines-in, not-longer))) in
        run-append 0 start hs (concat gs ++ (t ∷ []))
        ∙ rw (head.runs 0)
        (run-append (0 + size_of_all hs) (between (limit_of hs) (summary_of_all hs)) (concat gs) (t ∷ [])
        ∙ rw (groups-run gs good (0 + size_of_all hs) (limit_of hs) (summary_of_all hs) within room, ← e) ended)

    pub assembled-accepted : judge (with_trailer (hs ++ concat gs)) ≡ fine (summary_of_all (hs ++ concat gs) ⊞ only_lines 1)
    unfolding with_trailer fresh_trailer
    assembled-accepted =
        let rs = hs ++ concat gs in
        accepted-again (with_trailer rs) (summary_of_all rs ⊞ only_lines 1)
        (record {
          some_byte = not-empty (record_bytes rs) _ _;
          not-too-long = not-long;
          last = after_trailer (limit_of hs) (summary_of_all rs ⊞ only_lines 1);
          runs = ap (run 0 start) assembled-records ∙ all-run;
          has_ended = tt;
          summary = refl;
        })
