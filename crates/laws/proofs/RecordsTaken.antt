-- An accepted record of a known code; a group's record is accepted elsewhere too, under another limit and after another file. Assumes nothing.
use Prim.Native.Nat.{ℕ, ◌+◌, ◌≤◌}
use mathlib.Core.Path.{◌≡◌, refl, ap, subst, ◌∙◌}
use mathlib.Core.List.{List, [], ◌∷◌}
use native.Mathlib.Omega.{arith}
use lib.Dec.{T, leb, leb→le, le→leb}
use lib.ListN.{length}
use Rattle.rules.specs.Bytes.{same_bytes}
use Rattle.rules.specs.Outcome.{fine, ◌>>◌, check}
use Rattle.rules.specs.Lines.{size_of, Code, group_header, Record}
use Rattle.rules.specs.Numbers.{magnitudes}
use Rattle.rules.specs.Limits.{most}
use Rattle.rules.specs.Records.{Field, walk_record}
use Rattle.rules.specs.Totals.{Summary, ◌⊞◌, amount_of, sum_of, adding, of_record, bounded_from, balanced}
use Rattle.rules.specs.Order.{may_follow, among, group_after, account_after}
use Rattle.rules.specs.Verdict.{State, not_longer, all_allowed, coded, good_line, good_lines, limit_after, own_lines, state_after, step}
use Rattle.rules.specs.Parts.{heads, fields_in}
use Rattle.rules.specs.Combine.{summary_of, lines_within}
use Rattle.rules.proofs.Tests.{and_left, and_right, both}
use Rattle.rules.proofs.Binds.{from-bind, then-fine, first_fine, check-holds, check-true}
use Rattle.rules.proofs.Accepted.{Stepped, stepped, step-again}
use Rattle.laws.specs.LawWords.{Of}
use Rattle.laws.proofs.Codes.{of-each, one_code, order-fine}
use Rattle.laws.proofs.PartCuts.{group_codes}
use Rattle.laws.proofs.SummarySums.{summary-as}

-- ---- a record of a known code

-- the state after a record of code c
abbrev pub state_with : Code → State → Record → State
state_with c s r =
    record {
      expected = may_follow c;
      limit = limit_after c s.limit (fields_in c r);
      file = s.file ⊞ summary_of r;
      group = group_after c s.group (summary_of r);
      account = account_after c s.account (summary_of r);
    }

pub record Taken (c : Code) (s : State) (r : Record) (t : State) : Type 0 where
  pub walked : walk_record c r ≡ fine (fields_in c r)
  pub good-lines : good_lines 0 s.limit r ≡ fine tt
  pub bounded : bounded_from (magnitudes s.file.sum) (fields_in c r) ≡ fine tt
  pub balances : balanced c (s.account ⊞ summary_of r) (s.group ⊞ summary_of r) (s.file ⊞ summary_of r) (fields_in c r) ≡ fine tt
  pub next : t ≡ state_with c s r

fields_read : (c : Code) (r : Record) (fs : List Field) → walk_record c r ≡ fine fs → fields_in c r ≡ fs
unfolding fields_in
fields_read c r fs h = rw h

pub taken : (c : Code) (s : State) (r : Record) (t : State) → T (heads c r) → step s r ≡ fine t → Taken c s r t
unfolding state_after
taken c s r t h k =
    let x = stepped s r t k in
    let is_code : T (heads x.code r) = (order-fine s.expected r x.code x.in_order).0 in
    let f : fields_in x.code r ≡ x.fields = fields_read x.code r x.fields x.walked in
    let a : summary_of r ≡ of_record x.code r x.fields = summary-as x.code r is_code ∙ rw f in
    subst (λ (d : Code). Taken d s r t) (one_code x.code c r is_code h)
    (record {
      walked = rw f x.walked;
      good-lines = x.good-lines;
      bounded = rw f x.bounded;
      balances = rw (a, f) x.balances;
      next = x.next ∙ rw (a, f);
    })

-- ---- lines within the limit

pub good-within : (p limit : ℕ) (r : Record) → good_lines p limit r ≡ fine tt → T (lines_within limit r)
unfolding good_lines good_line lines_within not_longer
good-within p limit [] h = tt
good-within p limit (l ∷ ls) h =
    from-bind (good_line p limit l) _ tt h (λ c first rest.
    both (leb (length l.body) limit) (lines_within limit ls)
    (check-holds (leb (length l.body) limit) 3 (p + limit) (first_fine (not_longer p limit l) (all_allowed p l.body >> coded p l) c first))
    (good-within (p + size_of l) limit ls rest))

good-elsewhere : (p limit other : ℕ) (r : Record) → T (lines_within other r) → good_lines p limit r ≡ fine tt → good_lines p other r ≡ fine tt
unfolding good_lines good_line lines_within not_longer
good-elsewhere p limit other [] w h = refl
good-elsewhere p limit other (l ∷ ls) w h =
    from-bind (good_line p limit l) _ tt h (λ c first rest.
    rw (
      check-true (leb (length l.body) other) 3 (p + other) (and_left (leb (length l.body) other) (lines_within other ls) w),
      then-fine (not_longer p limit l) (all_allowed p l.body >> coded p l) c first,
    )
    (good-elsewhere (p + size_of l) limit other ls (and_right (leb (length l.body) other) (lines_within other ls) w) rest))

-- ---- 10 is given exactly where the magnitudes pass the largest

pub bounded-room : (m : ℕ) (fs : List Field) → m + magnitudes (sum_of fs) ≤ most → bounded_from m fs ≡ fine tt
unfolding bounded_from sum_of
bounded-room m [] h = refl
bounded-room m (f ∷ fs) h =
    rw (check-true (leb (m + magnitudes (amount_of f)) most) 10 f.place (le→leb (m + magnitudes (amount_of f)) most (omega arith)))
    (bounded-room (m + magnitudes (amount_of f)) fs (omega arith))

pub bounded-within : (m : ℕ) (fs : List Field) → m ≤ most → bounded_from m fs ≡ fine tt → m + magnitudes (sum_of fs) ≤ most
unfolding bounded_from sum_of
bounded-within m [] k h = omega arith
bounded-within m (f ∷ fs) k h =
    from-bind (check (leb (m + magnitudes (amount_of f)) most) 10 f.place) _ tt h (λ u first rest.
    let fits = leb→le (m + magnitudes (amount_of f)) most (check-holds (leb (m + magnitudes (amount_of f)) most) 10 f.place first) in
    let more = bounded-within (m + magnitudes (amount_of f)) fs fits rest in
    omega arith)

-- ---- a group's record elsewhere

-- no record of a group changes the limit, has its lines held against it again, or looks at the file's summary
module _ (c : Code) (h : T (among c (group_header ∷ group_codes))) where
  pub keeps-limit : (limit : ℕ) (fs : List Field) → limit_after c limit fs ≡ limit
  unfolding limit_after same_bytes
  keeps-limit limit fs = of-each (λ b. limit_after b limit fs ≡ limit) (group_header ∷ group_codes) (refl, (refl, (refl, (refl, (refl, tt))))) c h

  own-fine : (limit : ℕ) (r : Record) → own_lines c limit r ≡ fine tt
  unfolding own_lines same_bytes
  own-fine limit r = of-each (λ b. own_lines b limit r ≡ fine tt) (group_header ∷ group_codes) (refl, (refl, (refl, (refl, (refl, tt))))) c h

  same-balance : (account group file other : Summary) (fs : List Field) → balanced c account group file fs ≡ balanced c account group other fs
  unfolding balanced
  same-balance a g f o fs = of-each (λ b. balanced b a g f fs ≡ balanced b a g o fs) (group_header ∷ group_codes) (refl, (refl, (refl, (refl, (refl, tt))))) c h

-- the same state under another limit and after another file
abbrev pub elsewhere : ℕ → Summary → State → State
elsewhere limit file s = record { expected = s.expected; limit = limit; file = file; group = s.group; account = s.account }

stepped-elsewhere : (s t : State) (r : Record) → Stepped s r t → Of (group_header ∷ group_codes) r → (limit : ℕ) (file : Summary)
    → T (lines_within limit r) → magnitudes file.sum + magnitudes (summary_of r).sum ≤ most
    → step (elsewhere limit file s) r ≡ fine (elsewhere limit (file ⊞ summary_of r) t)
unfolding state_after of_record adding
stepped-elsewhere s t r x o limit file w room =
    let is_code : T (heads x.code r) = (order-fine s.expected r x.code x.in_order).0 in
    let same : o.code ≡ x.code = one_code o.code x.code r o.is_code is_code in
    let i : T (among x.code (group_header ∷ group_codes)) = subst (λ (c : Code). T (among c (group_header ∷ group_codes))) same o.is_among in
    let this = of_record x.code r x.fields in
    let a : summary_of r ≡ this = summary-as x.code r is_code ∙ ap (of_record x.code r) (fields_read x.code r x.fields x.walked) in
    step-again (elsewhere limit file s) r (elsewhere limit (file ⊞ summary_of r) t)
    (record {
      code = x.code;
      fields = x.fields;
      good-lines = good-elsewhere 0 s.limit limit r w x.good-lines;
      in_order = x.in_order;
      walked = x.walked;
      own-lines = own-fine x.code i (limit_after x.code limit x.fields) r;
      bounded = bounded-room (magnitudes file.sum) x.fields (rw a at room);
      balances = same-balance x.code i (s.account ⊞ this) (s.group ⊞ this) (file ⊞ this) (s.file ⊞ this) x.fields ∙ x.balances;
      next = rw (a, x.next, keeps-limit x.code i limit x.fields);
    })

pub step-elsewhere : (s t : State) (r : Record) → step s r ≡ fine t → Of (group_header ∷ group_codes) r → (limit : ℕ) (file : Summary)
    → T (lines_within limit r) → magnitudes file.sum + magnitudes (summary_of r).sum ≤ most
    → step (elsewhere limit file s) r ≡ fine (elsewhere limit (file ⊞ summary_of r) t)
step-elsewhere s t r k = stepped-elsewhere s t r (stepped s r t k)
