-- The parts of an accepted file are slices of it, by number and place, and 17 is given exactly from their number on. Assumes nothing.
use Prim.Native.Nat.{ℕ, zero, suc, ◌+◌, ◌≤◌, ◌<◌}
use mathlib.Core.Path.{◌≡◌, refl, sym, ap, subst, ◌∙◌}
use mathlib.Core.List.{List, [], ◌∷◌, ◌++◌, append_assoc, append-nil}
use native.Mathlib.Nat.{add-zero}
use native.Mathlib.Omega.{arith}
use lib.ListN.{length, take, drop, length-append}
use lib.Seq.{take-append_seam, drop-append_seam}
use Rattle.rules.specs.Bytes.{Bytes}
use Rattle.rules.specs.Outcome.{refuse, fine}
use Rattle.rules.specs.Lines.{Code, file_header, group_header, account_header, account_trailer, group_trailer, file_trailer, whole_line, end_bytes, line_bytes, Record, record_size, record_bytes, file_records}
use Rattle.rules.specs.Verdict.{judge}
use Rattle.rules.specs.Parts.{Placed, Parts, groups_in, size_of_all, part_from, part_in, group_at, account_at, detail_part_at}
use Rattle.rules.specs.Combine.{concat}
use Rattle.rules.proofs.Binds.{refused-fine, from-bind, fine-same}
use Rattle.rules.proofs.LineLaws.{file-bytes}
use Rattle.laws.specs.LawWords.{All, parts_of, accounts_in, details_in, Enclosed, IsDetail, IsAccount, IsGroup}
use Rattle.laws.proofs.KeptBytes.{bytes-append, bytes-of-parts}
use Rattle.laws.proofs.Envelopes.{account-cut, group-cut}
use Rattle.laws.proofs.Shape.{is-file, file-cut}

-- ---- sizes are lengths

record-length : (r : Record) → record_size r ≡ length (line_bytes r)
unfolding record_size line_bytes
record-length [] = refl
record-length (l ∷ ls) = rw (record-length ls) (sym (length-append (whole_line l) (line_bytes ls) ∙ rw (length-append l.body (end_bytes l.line_end))))

pub size-length : (rs : List Record) → size_of_all rs ≡ length (record_bytes rs)
unfolding size_of_all record_bytes
size-length [] = refl
size-length (r ∷ rs) = rw (record-length r, size-length rs) (sym (length-append (line_bytes r) (record_bytes rs)))

-- ---- a part stands at a place of the whole

pub record Located (whole : Bytes) (place : ℕ) (part : Bytes) : Type 0 where
  pub before : Bytes
  pub after : Bytes
  pub split : whole ≡ before ++ (part ++ after)
  pub place_is : place ≡ length before

-- the middle of three
pub middle : (xs ys zs : Bytes) → take (length ys) (drop (length xs) (xs ++ (ys ++ zs))) ≡ ys
middle xs ys zs = rw drop-append_seam (take-append_seam ys zs)

pub located-slice : (whole : Bytes) (place : ℕ) (part : Bytes) → Located whole place part → take (length part) (drop place whole) ≡ part
located-slice whole place part l =
    ap (λ (n : ℕ). take (length part) (drop n whole)) l.place_is
    ∙ ap (λ (bs : Bytes). take (length part) (drop (length l.before) bs)) l.split
    ∙ middle l.before part l.after

-- a part of a part is a part
located-in : (whole : Bytes) (p : ℕ) (mid : Bytes) (q : ℕ) (part : Bytes) → Located whole p mid → Located mid q part → Located whole (p + q) part
located-in whole p mid q part l m =
    record {
      before = l.before ++ m.before;
      after = m.after ++ l.after;
      split = l.split ∙ ap (λ (bs : Bytes). l.before ++ (bs ++ l.after)) m.split ∙ simp append_assoc;
      place_is = let e = l.place_is in let f = m.place_is in simp length-append (omega arith);
    }

-- ---- a part by its number

-- a part of some parts: what stands before it and after it
record Found (p : ℕ) (ps : List (List Record)) (x : Placed) : Type 0 where
  before : Bytes
  after : Bytes
  whole : concat (parts_of ps) ≡ before ++ (record_bytes x.records ++ after)
  place : x.place ≡ p + length before

found-next : (p : ℕ) (r : List Record) (ps : List (List Record)) (x : Placed) → Found (p + size_of_all r) ps x → Found p (r ∷ ps) x
unfolding parts_of concat
found-next p r ps x f =
    record {
      before = record_bytes r ++ f.before;
      after = f.after;
      whole = rw f.whole (sym (append_assoc (record_bytes r) f.before (record_bytes x.records ++ f.after)));
      place = let e = size-length r in f.place ∙ simp length-append (omega arith);
    }

found : (p : ℕ) (ps : List (List Record)) (i : ℕ) (x : Placed) → part_from p ps i ≡ fine x → Found p ps x
unfolding part_from parts_of concat
found p [] i x h = absurd (refused-fine _ x h)
found p (r ∷ ps) zero x h =
    let e : record { place = p; records = r } ≡ x = fine-same (record { place = p; records = r }) x h in
    rw (← e) (record { before = []; after = concat (parts_of ps); whole = refl; place = sym (add-zero p) })
found p (r ∷ ps) (suc i) x h = found-next p r ps x (found (p + size_of_all r) ps i x h)

-- the part of a number has what every part has
pub part-has : (P : List Record → Type 0) (p : ℕ) (ps : List (List Record)) (i : ℕ) (x : Placed) → All P ps → part_from p ps i ≡ fine x → P x.records
unfolding part_from
part-has P p [] i x a h = absurd (refused-fine _ x h)
part-has P p (r ∷ ps) zero x a h = subst (λ (y : Placed). P y.records) (fine-same (record { place = p; records = r }) x h) a.0
part-has P p (r ∷ ps) (suc i) x a h = part-has P (p + size_of_all r) ps i x a.1 h

no-part : (p : ℕ) (ps : List (List Record)) (i : ℕ) → length ps ≤ i → part_from p ps i ≡ refuse 17 0
unfolding part_from
no-part p [] i h = refl
no-part p (r ∷ ps) zero h = absurd (omega arith)
no-part p (r ∷ ps) (suc i) h = no-part (p + size_of_all r) ps i (omega arith)

some-part : (p : ℕ) (ps : List (List Record)) (i : ℕ) → i < length ps → (x : Placed) × (part_from p ps i ≡ fine x)
unfolding part_from
some-part p [] i h = absurd (omega arith)
some-part p (r ∷ ps) zero h = (record { place = p; records = r }, refl)
some-part p (r ∷ ps) (suc i) h = some-part (p + size_of_all r) ps i (omega arith)

-- the same of records cut into parts
module _ (p : ℕ) (cut : Parts) (i : ℕ) where
  pub no-part-in : length cut.parts ≤ i → part_in p cut i ≡ refuse 17 0
  unfolding part_in
  no-part-in h = no-part (p + size_of_all cut.waiting) cut.parts i h

  pub some-part-in : i < length cut.parts → (x : Placed) × (part_in p cut i ≡ fine x)
  unfolding part_in
  some-part-in h = some-part (p + size_of_all cut.waiting) cut.parts i h

-- a part of an envelope has what every part has, and is a part of it at its place
module _ (c d : Code) (ps : List (List Record)) (rs : List Record) (e : Enclosed c d ps rs) (p i : ℕ) (x : Placed)
    (at_i : part_in p (record { waiting = e.header ∷ []; parts = ps }) i ≡ fine x) where
  in-part : (P : List Record → Type 0) → All P ps → P x.records
  unfolding part_in
  in-part P a = part-has P (p + size_of_all (e.header ∷ [])) ps i x a at_i

  part-located : (whole : Bytes) → Located whole p (record_bytes rs) → Located whole x.place (record_bytes x.records)
  unfolding part_in
  part-located whole l =
      let f = found (p + size_of_all (e.header ∷ [])) ps i x at_i in
      let h = record_bytes (e.header ∷ []) in
      let e₁ = size-length (e.header ∷ []) in
      let inner : Located (record_bytes rs) (length h + length f.before) (record_bytes x.records) =
      record {
        before = h ++ f.before;
        after = f.after ++ record_bytes (e.trailer ∷ []);
        split =
            ap record_bytes e.whole
            ∙ bytes-append (e.header ∷ []) (concat ps ++ (e.trailer ∷ []))
            ∙ rw (bytes-append (concat ps) (e.trailer ∷ []), bytes-of-parts ps, f.whole) (simp append_assoc);
        place_is = sym (length-append h f.before);
      } in
      subst (λ (n : ℕ). Located whole n (record_bytes x.records)) (sym (f.place ∙ omega arith))
      (located-in whole p (record_bytes rs) (length h + length f.before) (record_bytes x.records) l inner)

-- ---- groups, accounts and details of a file

pub record Part (Is : List Record → Type 0) (file : Bytes) (x : Placed) : Type 0 where
  pub is-part : Is x.records
  pub located : Located file x.place (record_bytes x.records)

whole-located : (file : Bytes) → Located file 0 (record_bytes (file_records file))
whole-located file = record { before = []; after = []; split = sym (append-nil (record_bytes (file_records file)) ∙ file-bytes file); place_is = refl }

pub group-part : (file : Bytes) (g : ℕ) (x : Placed) → group_at file g ≡ fine x → Part IsGroup file x
unfolding group_at
group-part file g x h =
    from-bind (judge file) _ x h (λ s accepts rest.
    let i = is-file file s accepts in
    let at_g = subst (λ (c : Parts). part_in 0 c g ≡ fine x) (file-cut file i) rest in
    record {
      is-part = in-part file_header file_trailer (groups_in file) (file_records file) i.enclosed 0 g x at_g IsGroup i.groups;
      located = part-located file_header file_trailer (groups_in file) (file_records file) i.enclosed 0 g x at_g file (whole-located file);
    })

pub account-part : (file : Bytes) (g a : ℕ) (x : Placed) → account_at file g a ≡ fine x → Part IsAccount file x
unfolding account_at
account-part file g a x h =
    from-bind (group_at file g) _ x h (λ group first rest.
    let part = group-part file g group first in
    let rs = group.records in
    let i = part.is-part in
    let at_a = subst (λ (c : Parts). part_in group.place c a ≡ fine x) (group-cut rs i) rest in
    record {
      is-part = in-part group_header group_trailer (accounts_in rs) rs i.enclosed group.place a x at_a IsAccount i.accounts;
      located = part-located group_header group_trailer (accounts_in rs) rs i.enclosed group.place a x at_a file part.located;
    })

pub detail-part : (file : Bytes) (g a d : ℕ) (x : Placed) → detail_part_at file g a d ≡ fine x → Part IsDetail file x
unfolding detail_part_at
detail-part file g a d x h =
    from-bind (account_at file g a) _ x h (λ account first rest.
    let part = account-part file g a account first in
    let rs = account.records in
    let i = part.is-part in
    let at-d = subst (λ (c : Parts). part_in account.place c d ≡ fine x) (account-cut rs i) rest in
    record {
      is-part = in-part account_header account_trailer (details_in rs) rs i.enclosed account.place d x at-d IsDetail i.details;
      located = part-located account_header account_trailer (details_in rs) rs i.enclosed account.place d x at-d file part.located;
    })
