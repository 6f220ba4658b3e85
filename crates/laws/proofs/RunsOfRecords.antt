-- Accepted runs: cut in two, what they add up to, and that a group's run is accepted anywhere. Assumes nothing.
use Prim.Native.Nat.{ℕ, ◌+◌, ◌≤◌}
use mathlib.Core.Path.{◌≡◌, sym, ap, subst, ◌∙◌}
use mathlib.Core.List.{List, [], ◌∷◌, ◌++◌}
use native.Mathlib.Omega.{arith}
use lib.Dec.{T}
use Rattle.rules.specs.Outcome.{fine, moved}
use Rattle.rules.specs.Lines.{Code, file_header, group_header, Record, record_size}
use Rattle.rules.specs.Numbers.{magnitudes}
use Rattle.rules.specs.Limits.{most}
use Rattle.rules.specs.Totals.{Summary, ◌⊞◌, adding, of_record}
use Rattle.rules.specs.Verdict.{State, step, run}
use Rattle.rules.specs.Parts.{fields_in, size_of_all}
use Rattle.rules.specs.Combine.{summary_of, summary_of_all, lines_within, concat}
use Rattle.rules.proofs.Binds.{from-bind, moved-fine, fine-same}
use Rattle.rules.proofs.RunLaws.{run-append, run-anywhere}
use Rattle.laws.specs.LawWords.{All, Enclosed, IsGroup, between, RunsAnywhere, Of}
use Rattle.laws.proofs.Codes.{of-each}
use Rattle.laws.proofs.PartCuts.{group_codes}
use Rattle.laws.proofs.Envelopes.{group-codes}
use Rattle.laws.proofs.SummarySums.{add_none, add-regroup, summary-as, within-left, within-right, within_both}
use Rattle.laws.proofs.RecordsTaken.{state_with, Taken, taken, good-within, bounded-within, keeps-limit, elsewhere, step-elsewhere}

-- ---- cut in two

-- the first record, and the rest
pub run-cons : (p : ℕ) (s u : State) (r : Record) (rs : List Record) → run p s (r ∷ rs) ≡ fine u → (t : State) × (step s r ≡ fine t) × (run 0 t rs ≡ fine u)
unfolding run
run-cons p s u r rs h =
    from-bind (moved p (step s r)) _ u h (λ t first rest. (t, moved-fine p (step s r) t first, run-anywhere (p + record_size r) 0 t u rs rest))

pub run-two : (p : ℕ) (s u : State) (rs qs : List Record) → run p s (rs ++ qs) ≡ fine u → (t : State) × (run 0 s rs ≡ fine t) × (run 0 t qs ≡ fine u)
run-two p s u rs qs h =
    from-bind (run p s rs) _ u (sym (run-append p s rs qs) ∙ h) (λ t first rest. (t, run-anywhere p 0 s t rs first, run-anywhere (p + size_of_all rs) 0 t u qs rest))

pub run_none : (p : ℕ) (s u : State) → run p s [] ≡ fine u → s ≡ u
unfolding run
run_none p s u h = fine-same s u h

pub run-one : (p : ℕ) (s t : State) (r : Record) → step s r ≡ fine t → run p s (r ∷ []) ≡ fine t
unfolding run moved
run-one p s t r h = rw h

-- an envelope: the state after its first record, and the state before its last
pub record Through {c d : Code} {ps : List (List Record)} {rs : List Record} (e : Enclosed c d ps rs) (s u : State) : Type 0 where
  pub opened : State
  pub last : State
  pub begins : step s e.header ≡ fine opened
  pub opens : Taken c s e.header opened
  pub inner : run 0 opened (concat ps) ≡ fine last
  pub before : run 0 s (e.header ∷ concat ps) ≡ fine last
  pub closes : Taken d last e.trailer u

pub through : {c d : Code} {ps : List (List Record)} {rs : List Record} (e : Enclosed c d ps rs) (s u : State) → run 0 s rs ≡ fine u → Through e s u
through {c} {d} {ps} e s u h =
    let (last, before, end) = run-two 0 s u (e.header ∷ concat ps) (e.trailer ∷ []) (subst (λ (rs : List Record). run 0 s rs ≡ fine u) e.whole h) in
    let (opened, first, inner) = run-cons 0 s last e.header (concat ps) before in
    let (v, closes, over) = run-cons 0 last u e.trailer [] end in
    record {
      opened = opened;
      last = last;
      begins = first;
      opens = taken c s e.header opened e.is-header first;
      inner = inner;
      before = before;
      closes = taken d last e.trailer u e.is-trailer (closes ∙ ap (λ (y : State). fine y) (run_none 0 v u over));
    }

-- ---- what a run adds up to

-- a summary in states that each record of one of these codes adds to
module _ (get : State → Summary) (codes : List Code) (law : (s : State) (r : Record) → All (λ c. get (state_with c s r) ≡ get s ⊞ summary_of r) codes) where
  step_sum : (s t : State) (r : Record) → Of codes r → step s r ≡ fine t → get t ≡ get s ⊞ summary_of r
  step_sum s t r o h =
      ap get (taken o.code s r t o.is_code h).next ∙ of-each (λ c. get (state_with c s r) ≡ get s ⊞ summary_of r) codes (law s r) o.code o.is_among

  pub run-sum : (rs : List Record) (s t : State) → All (Of codes) rs → run 0 s rs ≡ fine t → get t ≡ get s ⊞ summary_of_all rs
  unfolding summary_of_all
  run-sum [] s t a h = ap get (sym (run_none 0 s t h)) ∙ sym (add_none (get s))
  run-sum (r ∷ rs) s t a h =
      let (u, first, rest) = run-cons 0 s t r rs h in
      run-sum rs u t a.1 rest
      ∙ ap (λ (x : Summary). x ⊞ summary_of_all rs) (step_sum s u r a.0 first)
      ∙ add-regroup (get s) (summary_of r) (summary_of_all rs)

-- ---- the largest, and the limit

-- the magnitudes stay within the largest
bounded-add : (a b : Summary) → magnitudes a.sum + magnitudes b.sum ≤ most → magnitudes (a ⊞ b).sum ≤ most
unfolding ◌⊞◌
bounded-add a b h = omega arith

step-bounded : (cs : List Code) (s t : State) (r : Record) → Of cs r → step s r ≡ fine t → magnitudes s.file.sum ≤ most → magnitudes t.file.sum ≤ most
unfolding of_record adding
step-bounded cs s t r o h k =
    let x = taken o.code s r t o.is_code h in
    rw x.next
    (bounded-add s.file (summary_of r) (rw (summary-as o.code r o.is_code) (bounded-within (magnitudes s.file.sum) (fields_in o.code r) k x.bounded)))

pub run-bounded : (cs : List Code) (rs : List Record) (s t : State) → All (Of cs) rs → run 0 s rs ≡ fine t → magnitudes s.file.sum ≤ most → magnitudes t.file.sum ≤ most
run-bounded cs [] s t a h k = rw (← run_none 0 s t h) k
run-bounded cs (r ∷ rs) s t a h k =
    let (u, first, rest) = run-cons 0 s t r rs h in
    run-bounded cs rs u t a.1 rest (step-bounded cs s u r a.0 first k)

-- a group's records, and groups, keep the limit, and their lines respect it
step-limit : (s t : State) (r : Record) → Of (group_header ∷ group_codes) r → step s r ≡ fine t → t.limit ≡ s.limit
step-limit s t r o h = ap (λ (y : State). y.limit) (taken o.code s r t o.is_code h).next ∙ keeps-limit o.code o.is_among s.limit (fields_in o.code r)

pub run-limit : (rs : List Record) (s t : State) → All (Of (group_header ∷ group_codes)) rs → run 0 s rs ≡ fine t → t.limit ≡ s.limit
run-limit [] s t a h = ap (λ (y : State). y.limit) (sym (run_none 0 s t h))
run-limit (r ∷ rs) s t a h = let (u, first, rest) = run-cons 0 s t r rs h in run-limit rs u t a.1 rest ∙ step-limit s u r a.0 first

pub run-within : (rs : List Record) (s t : State) → All (Of (group_header ∷ group_codes)) rs → run 0 s rs ≡ fine t → T (lines_within s.limit (concat rs))
unfolding concat lines_within
run-within [] s t a h = tt
run-within (r ∷ rs) s t a h =
    let (u, first, rest) = run-cons 0 s t r rs h in
    within_both s.limit r (concat rs) (good-within 0 s.limit r (taken a.0.code s r u a.0.is_code first).good-lines)
    (subst (λ (l : ℕ). T (lines_within l (concat rs))) (step-limit s u r a.0 first) (run-within rs u t a.1 rest))

-- ---- a group's run elsewhere

two_rooms : (file a b : Summary) → magnitudes file.sum + magnitudes (a ⊞ b).sum ≤ most
    → (magnitudes file.sum + magnitudes a.sum ≤ most) × (magnitudes (file ⊞ a).sum + magnitudes b.sum ≤ most)
unfolding ◌⊞◌
two_rooms file a b h = (omega arith, omega arith)

run-elsewhere : (rs : List Record) (s t : State) → All (Of (group_header ∷ group_codes)) rs → run 0 s rs ≡ fine t → (p limit : ℕ) (file : Summary)
    → T (lines_within limit (concat rs)) → magnitudes file.sum + magnitudes (summary_of_all rs).sum ≤ most
    → run p (elsewhere limit file s) rs ≡ fine (elsewhere limit (file ⊞ summary_of_all rs) t)
unfolding run moved concat summary_of_all
run-elsewhere [] s t a h p limit file w room = rw (add_none file) (ap (λ (y : State). fine (elsewhere limit file y)) (run_none 0 s t h))
run-elsewhere (r ∷ rs) s t a h p limit file w room =
    let (u, first, rest) = run-cons 0 s t r rs h in
    let (here, after) = two_rooms file (summary_of r) (summary_of_all rs) room in
    rw (step-elsewhere s u r first a.0 limit file (within-left limit r (concat rs) w) here)
    (run-elsewhere rs u t a.1 rest (p + record_size r) limit (file ⊞ summary_of r) (within-right limit r (concat rs) w) after
    ∙ ap (λ (f : Summary). fine (elsewhere limit f t)) (add-regroup file (summary_of r) (summary_of_all rs)))

-- between groups, whatever the limit and the file so far
abbrev pub Outside : State → Type 0
Outside s = (limit : ℕ) (file : Summary) → elsewhere limit file s ≡ between limit file

pub after-header : (s t : State) (r : Record) → Taken file_header s r t → Outside t
after-header s t r x limit file = ap (elsewhere limit file) x.next

-- a group runs from between groups to between groups, anywhere
group-outside : (g : List Record) (s t : State) → IsGroup g → run 0 s g ≡ fine t → Outside t
group-outside g s t i h limit file = ap (elsewhere limit file) (through i.enclosed s t h).closes.next

group-anywhere : (g : List Record) (s t : State) → IsGroup g → Outside s → run 0 s g ≡ fine t → RunsAnywhere g
group-anywhere g s t i o h p limit file w room =
    ap (λ (y : State). run p y g) (sym (o limit file))
    ∙ run-elsewhere g s t (group-codes g i) h p limit file w room
    ∙ ap (λ (y : State). fine y) (group-outside g s t i h limit (file ⊞ summary_of_all g))

pub groups-anywhere : (gs : List (List Record)) (s t : State) → All IsGroup gs → Outside s → run 0 s (concat gs) ≡ fine t → All RunsAnywhere gs
unfolding concat
groups-anywhere [] s t a o h = tt
groups-anywhere (g ∷ gs) s t a o h =
    let (u, first, rest) = run-two 0 s t g (concat gs) h in
    (group-anywhere g s u a.0 o first, groups-anywhere gs u t a.1 (group-outside g s u a.0 first) rest)
