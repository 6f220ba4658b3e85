-- The order of records gives the shape of a file: a 01, groups, a 99; a group: a 02, accounts, a 98; an account: a 03, details, a 49. Assumes nothing.
use Prim.Native.Nat.{ℕ, ◌+◌, ◌≤◌}
use mathlib.Core.Path.{◌≡◌, refl, sym, ap, subst, ◌∙◌}
use mathlib.Core.List.{List, [], ◌∷◌, ◌++◌, append_assoc}
use native.Mathlib.Omega.{arith}
use lib.Dec.{T}
use lib.ListN.{length}
use Rattle.rules.specs.Bytes.{Bytes, same_bytes}
use Rattle.rules.specs.Outcome.{fine, moved}
use Rattle.rules.specs.Lines.{Code, file_header, group_header, account_header, detail, account_trailer, group_trailer, file_trailer, continuation, Record, record_size, file_records}
use Rattle.rules.specs.Totals.{Summary}
use Rattle.rules.specs.Order.{may_follow, among, ended}
use Rattle.rules.specs.Verdict.{State, start, state_after, step, run, judge}
use Rattle.rules.specs.Parts.{heads, Parts, in_groups, header_in, groups_in}
use Rattle.rules.specs.Combine.{concat}
use Rattle.rules.proofs.Binds.{from-bind, moved-fine, fine-same}
use Rattle.rules.proofs.Accepted.{stepped, accepted}
use Rattle.laws.specs.LawWords.{All, IsDetail, IsAccount, IsGroup, IsFile, Of}
use Rattle.laws.proofs.Codes.{of-each, order-fine, of-own}
use Rattle.laws.proofs.PartCuts.{within-envelope, group_codes, file_codes, cut-groups}
use Rattle.laws.proofs.Envelopes.{groups-begin, make-account, make-group}

-- ---- an accepted run's records are in order

-- after a record of code b, these records are in order, and the last of them is a 99
abbrev Ordered : Code → List Record → Type 0
Ordered b [] = T (ended (may_follow b))
Ordered b (r ∷ rs) = (c : Code) × T (heads c r) × T (among c (may_follow b)) × Ordered c rs

ordered : (p : ℕ) (s u : State) (rs : List Record) (b : Code) → s.expected ≡ may_follow b → run p s rs ≡ fine u → T (ended u.expected) → Ordered b rs
unfolding run state_after
ordered p s u [] b e h k = rw (← e, fine-same s u h) k
ordered p s u (r ∷ rs) b e h k =
    from-bind (moved p (step s r)) _ u h (λ t first rest.
    let x = stepped s r t (moved-fine p (step s r) t first) in
    let found = order-fine s.expected r x.code x.in_order in (
      x.code,
      found.0,
      subst (λ (cs : List Code). T (among x.code cs)) e found.1,
      ordered (p + record_size r) t u rs x.code (ap (λ (y : State). y.expected) x.next) rest k,
    ))

-- ---- what is left of an envelope, and of what encloses it

-- the parts left, so many at least, the last record of code d, and others after it
record Left (d : Code) (least : ℕ) (Part Then : List Record → Type 0) (rs : List Record) : Type 0 where
  parts : List (List Record)
  trailer : Record
  others : List Record
  whole : rs ≡ concat parts ++ (trailer ∷ others)
  enough : least ≤ length parts
  are-parts : All Part parts
  is-trailer : T (heads d trailer)
  then : Then others

closed : (d : Code) (Part Then : List Record → Type 0) (r : Record) (rs : List Record) → T (heads d r) → Then rs → Left d 0 Part Then (r ∷ rs)
unfolding concat
closed d Part Then r rs h t = record { parts = []; trailer = r; others = rs; whole = refl; enough = omega arith; are-parts = tt; is-trailer = h; then = t }

-- a part more
longer : (d : Code) (least : ℕ) (Part Then : List Record → Type 0) (p rs : List Record) → least ≤ 1 → Part p → Left d 0 Part Then rs → Left d least Part Then (p ++ rs)
unfolding concat
longer d least Part Then p rs few is-part l =
    record {
      parts = p ∷ l.parts;
      trailer = l.trailer;
      others = l.others;
      whole = ap (λ (y : List Record). p ++ y) l.whole ∙ sym (append_assoc p (concat l.parts) (l.trailer ∷ l.others));
      enough = omega arith;
      are-parts = (is-part, l.are-parts);
      is-trailer = l.is-trailer;
      then = l.then;
    }

-- a record that opens a part: what is left of the part is now a part of what encloses it
opened : (d e : Code) (least inner : ℕ) (Part Inner Then : List Record → Type 0) (r : Record) (rs : List Record) → least ≤ 1
    → ((ps : List (List Record)) (t : Record) → inner ≤ length ps → All Inner ps → T (heads e t) → Part (r ∷ (concat ps ++ (t ∷ []))))
    → Left e inner Inner (Left d 0 Part Then) rs → Left d least Part Then (r ∷ rs)
opened d e least inner Part Inner Then r rs few make l =
    let p = r ∷ (concat l.parts ++ (l.trailer ∷ [])) in
    let whole : r ∷ rs ≡ p ++ l.others = ap (λ (y : List Record). r ∷ y) (l.whole ∙ sym (append_assoc (concat l.parts) (l.trailer ∷ []) l.others)) in
    subst (Left d least Part Then) (sym whole) (longer d least Part Then p l.others few (make l.parts l.trailer l.enough l.are-parts l.is-trailer) l.then)

-- ---- the whole file, from its last record on

-- after a 99 nothing; after a 01 or a 98 groups and the 99; after a 02 or a 49 accounts and the 98; after a 03 or a 16 details and the 49
abbrev Over : List Record → Type 0
Over rs = rs ≡ []

abbrev InFile : List Record → Type 0
InFile rs = Left file_trailer 0 IsGroup Over rs

abbrev InGroup : ℕ → List Record → Type 0
InGroup least rs = Left group_trailer least IsAccount InFile rs

abbrev InAccount : List Record → Type 0
InAccount rs = Left account_trailer 0 IsDetail (InGroup 0) rs

abbrev After : Code → List Record → Type 0
After file_header rs = InFile rs
After group_header rs = InGroup 1 rs
After account_header rs = InAccount rs
After detail rs = InAccount rs
After account_trailer rs = InGroup 0 rs
After group_trailer rs = InFile rs
After file_trailer rs = Over rs
After continuation rs = Unit {0}

module _ (r : Record) (rs : List Record) where
  abbrev Comes : (List Record → Type 0) → Code → Type 0
  Comes P c = T (heads c r) → After c rs → P (r ∷ rs)

  new-group : Comes InFile group_header
  new-group h l = opened file_trailer group_trailer 0 1 IsGroup IsAccount Over r rs (omega arith) (make-group r h) l

  new-account : (least : ℕ) → least ≤ 1 → Comes (InGroup least) account_header
  new-account least few h l = opened group_trailer account_trailer least 0 IsAccount IsDetail InFile r rs few (make-account r h) l

  new-detail : Comes InAccount detail
  new-detail h l = longer account_trailer 0 IsDetail (InGroup 0) (r ∷ []) rs (omega arith) h l

  file-over : Comes InFile file_trailer
  file-over h l = closed file_trailer IsGroup Over r rs h l

  group-over : Comes (InGroup 0) group_trailer
  group-over h l = closed group_trailer IsAccount InFile r rs h l

  account-over : Comes InAccount account_trailer
  account-over h l = closed account_trailer IsDetail (InGroup 0) r rs h l

  after_next : (b c : Code) → T (among c (may_follow b)) → Comes (After b) c
  after_next file_header c m = of-each (Comes InFile) (may_follow file_header) (new-group, (file-over, tt)) c m
  after_next group_header c m = of-each (Comes (InGroup 1)) (may_follow group_header) (new-account 1 (omega arith), tt) c m
  after_next account_header c m = of-each (Comes InAccount) (may_follow account_header) (new-detail, (account-over, tt)) c m
  after_next detail c m = of-each (Comes InAccount) (may_follow detail) (new-detail, (account-over, tt)) c m
  after_next account_trailer c m = of-each (Comes (InGroup 0)) (may_follow account_trailer) (new-account 0 (omega arith), (group-over, tt)) c m
  after_next group_trailer c m = of-each (Comes InFile) (may_follow group_trailer) (new-group, (file-over, tt)) c m
  after_next file_trailer c m = of-each (Comes Over) (may_follow file_trailer) tt c m
  after_next continuation c m = of-each (Comes (λ qs. Unit {0})) (may_follow continuation) tt c m

after-end : (b : Code) → T (ended (may_follow b)) → After b []
after-end file_header h = absurd h
after-end group_header h = absurd h
after-end account_header h = absurd h
after-end detail h = absurd h
after-end account_trailer h = absurd h
after-end group_trailer h = absurd h
after-end file_trailer h = refl
after-end continuation h = tt

after-all : (b : Code) (rs : List Record) → Ordered b rs → After b rs
after-all b [] o = after-end b o
after-all b (r ∷ rs) (c, h, m, o) = after_next r rs b c m h (after-all c rs o)

-- ---- an accepted file has this shape

cut-file : (file : Bytes) (h : Record) (gs : List (List Record)) (t : Record) → file_records file ≡ h ∷ (concat gs ++ (t ∷ []))
    → T (heads file_header h) → All IsGroup gs → T (heads file_trailer t) → in_groups (file_records file) ≡ record { waiting = h ∷ []; parts = gs }
cut-file file h gs t e is-h a is-t = rw e (cut-groups h gs t is-h (groups-begin gs a) is-t)

make-file : (file : Bytes) (h : Record) (rs : List Record) → file_records file ≡ h ∷ rs → T (heads file_header h) → InFile rs → IsFile file
unfolding groups_in
make-file file h rs e is-h l =
    let whole : file_records file ≡ h ∷ (concat l.parts ++ (l.trailer ∷ [])) = e ∙ rw (l.whole, l.then) in
    let cut : groups_in file ≡ l.parts = ap (λ (p : Parts). p.parts) (cut-file file h l.parts l.trailer whole is-h l.are-parts l.is-trailer) in
    record {
      enclosed = record { header = h; trailer = l.trailer; is-header = is-h; is-trailer = l.is-trailer; whole = rw cut whole };
      groups = rw cut l.are-parts;
    }

first-header : (file : Bytes) (u : State) (rs : List Record) → file_records file ≡ rs → run 0 start rs ≡ fine u → T (ended u.expected) → IsFile file
unfolding run state_after
first-header file u [] e h k = absurd (subst (λ (y : State). T (ended y.expected)) (sym (fine-same start u h)) k)
first-header file u (r ∷ rs) e h k =
    from-bind (moved 0 (step start r)) _ u h (λ t first rest.
    let x = stepped start r t (moved-fine 0 (step start r) t first) in
    let found = order-fine start.expected r x.code x.in_order in
    let is-01 : x.code ≡ file_header = of-each (λ c. c ≡ file_header) start.expected (refl, tt) x.code found.1 in
    make-file file r rs e (subst (λ (c : Code). T (heads c r)) is-01 found.0)
    (after-all file_header rs (ordered (0 + record_size r) t u rs file_header (ap (λ (y : State). y.expected) x.next ∙ ap may_follow is-01) rest k)))

pub is-file : (file : Bytes) (s : Summary) → judge file ≡ fine s → IsFile file
is-file file s j = let a = accepted file s j in first-header file a.last (file_records file) refl a.runs a.has_ended

-- cut at its groups; its header is one record
pub file-cut : (file : Bytes) (x : IsFile file) → in_groups (file_records file) ≡ record { waiting = x.enclosed.header ∷ []; parts = groups_in file }
file-cut file x = let e = x.enclosed in cut-file file e.header (groups_in file) e.trailer e.whole e.is-header x.groups e.is-trailer

pub one-header : (file : Bytes) (x : IsFile file) → header_in file ≡ x.enclosed.header ∷ []
unfolding header_in
one-header file x = ap (λ (p : Parts). p.waiting) (file-cut file x)

-- all its records have codes
pub file-codes : (file : Bytes) → IsFile file → All (Of (file_header ∷ file_codes)) (file_records file)
unfolding among same_bytes
file-codes file x =
    let e = x.enclosed in
    rw e.whole (
      of-own file_header file_codes e.header e.is-header,
      within-envelope group_header group_codes (file_header ∷ file_codes) (tt, (tt, (tt, (tt, (tt, tt))))) file_trailer (groups_in file) e.trailer tt
          (groups-begin (groups_in file) x.groups) e.is-trailer,
    )
