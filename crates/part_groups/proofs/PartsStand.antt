-- An accepted file, its groups and its accounts are envelopes, and slices of the file that read as themselves; its details are 16s that were read. Assumes nothing.
use Prim.Native.Nat.{ℕ, ◌+◌}
use mathlib.Core.Path.{◌≡◌, refl, ap, subst, ◌∙◌}
use mathlib.Core.List.{List, [], ◌∷◌, ◌++◌, append-nil}
use lib.Dec.{T}
use lib.ListN.{length, take, drop}
use Rattle.rules.specs.Bytes.{Bytes, same_bytes}
use Rattle.rules.specs.Outcome.{Refusal, refused, fine, moved}
use Rattle.rules.specs.Lines.{Code, group_header, account_header, detail, account_trailer, group_trailer, file_trailer, lines_of, Record, record_size, record_bytes, file_records}
use Rattle.rules.specs.Order.{among}
use Rattle.rules.specs.Records.{Field, walk_record}
use Rattle.rules.specs.Totals.{Summary}
use Rattle.rules.specs.Verdict.{State, start, step, run, judge}
use Rattle.rules.specs.Parts.{heads, cut_at, Placed, in_groups, in_accounts, in_details, part_in, groups_in, group_at, account_at, detail_part_at, part_bytes}
use Rattle.rules.specs.Combine.{concat}
use Rattle.rules.specs.Answers.{PartAnswer, part_answer, group_part}
use Rattle.rules.proofs.Accepted.{stepped, accepted}
use Rattle.rules.proofs.Binds.{from-bind, moved-fine}
use Rattle.laws.specs.LawWords.{All, accounts_in, details_in, Enclosed, IsDetail, IsAccount, IsGroup, Begins, IsRecord, Kept}
use Rattle.laws.proofs.Lists.{all_left, all_right}
use Rattle.laws.proofs.Codes.{one_code, order-fine}
use Rattle.laws.proofs.KeptBytes.{kept-left, kept-right, kept-alone}
use Rattle.laws.proofs.PartCuts.{account_codes, group_codes}
use Rattle.laws.proofs.Envelopes.{details-begin, accounts-begin, groups-begin, group-cut, account-cut}
use Rattle.laws.proofs.Shape.{is-file, file-cut}
use Rattle.laws.proofs.Groups.{decomposed, good-kept}
use Rattle.laws.proofs.PartSlices.{part-has, group-part, account-part, detail-part}
use Rattle.laws.proofs.FileTheorems.{group-is-slice, account-is-slice, detail-is-slice, reader-numbers}
use Rattle.join_groups.proofs.GroupRecords.{lines_are}
use Rattle.part_groups.specs.PartsEnclosed.{Apart, Envelope, Numbered, Outer}
use Rattle.part_groups.proofs.PartsMoved.{in-refuses, bind-refuses}

-- ---- envelopes

enveloped : (h c d : Code) (others : List Code) (ps : List (List Record)) (rs : List Record) → Apart c d others → (e : Enclosed h d ps rs)
    → All (Begins c others) ps → All IsRecord (concat ps) → cut_at c d rs ≡ record { waiting = e.header ∷ []; parts = ps } → Envelope c d rs
enveloped h c d others ps rs a e b i cut =
    record {
      others = others;
      apart = a;
      first = e.header;
      parts = ps;
      rest = concat ps ++ (e.trailer ∷ []);
      whole = e.whole;
      ahead = record { last = e.trailer; whole = refl; is_last = e.is-trailer; opens = b; are-records = i };
      cut = cut;
    }

-- ---- records of an accepted file

-- a record that was read: its code and its fields
pub record Read (r : Record) : Type 0 where
  pub code : Code
  pub is_code : T (heads code r)
  pub fields : List Field
  pub walked : walk_record code r ≡ fine fields

run-read : (p : ℕ) (s u : State) (rs : List Record) → run p s rs ≡ fine u → All Read rs
unfolding run
run-read p s u [] h = tt
run-read p s u (r ∷ rs) h =
    from-bind (moved p (step s r)) _ u h (λ t first rest.
    let x = stepped s r t (moved-fine p (step s r) t first) in (
      record { code = x.code; is_code = (order-fine s.expected r x.code x.in_order).0; fields = x.fields; walked = x.walked },
      run-read (p + record_size r) t u rs rest,
    ))

-- records that stay themselves and were read; so do those between an envelope's ends, and each part
pub record Sound (rs : List Record) : Type 0 where
  pub kept : Kept rs
  pub read : All Read rs

parts-sound : (ps : List (List Record)) → Kept (concat ps) → All Read (concat ps) → All Sound ps
unfolding concat
parts-sound [] k a = tt
parts-sound (p ∷ ps) k a = (
  record { kept = kept-left p (concat ps) k; read = all_left Read p (concat ps) a },
  parts-sound ps (kept-right p (concat ps) k) (all_right Read p (concat ps) a),
)

inner-read : {h d : Code} (ps : List (List Record)) (rs : List Record) → Enclosed h d ps rs → All Read rs → All Read (concat ps)
inner-read ps rs e a = all_left Read (concat ps) (e.trailer ∷ []) (all_right Read (e.header ∷ []) (concat ps ++ (e.trailer ∷ [])) (subst (All Read) e.whole a))

inner-kept : {h d : Code} (ps : List (List Record)) (rs : List Record) → Enclosed h d ps rs → Kept rs → Kept (concat ps)
inner-kept ps rs e k = kept-left (concat ps) (e.trailer ∷ []) (kept-right (e.header ∷ []) (concat ps ++ (e.trailer ∷ [])) (subst Kept e.whole k))

inner-sound : {h d : Code} (ps : List (List Record)) (rs : List Record) → Enclosed h d ps rs → Sound rs → All Sound ps
inner-sound ps rs e s = parts-sound ps (inner-kept ps rs e s.kept) (inner-read ps rs e s.read)

-- ---- the file

pub file-envelope : (file : Bytes) (s : Summary) → judge file ≡ fine s → Envelope group_header file_trailer (file_records file)
unfolding in_groups among same_bytes
file-envelope file s h =
    let i = is-file file s h in
    let gs = groups_in file in
    enveloped _ group_header file_trailer group_codes gs (file_records file)
    (record { c-else = tt; d-else = tt; c-88 = tt; d-88 = tt; d-c = tt }) i.enclosed (groups-begin gs i.groups) (good-kept gs (decomposed file s h).groups).are-records (file-cut file i)

-- the search in it is the group call's answer, after the reader's refusal
pub group-refused : (file : Bytes) (g : ℕ) (why : Refusal) → judge file ≡ refused why → record { refusal = why; start = 0; len = 0 } ≡ group_part file g
unfolding group_part group_at part_answer part_bytes
group-refused file g why h = rw h

pub group-accepted : (file : Bytes) (s : Summary) (g : ℕ) (r : PartAnswer) → judge file ≡ fine s
    → r ≡ part_answer (part_in 0 (cut_at group_header file_trailer (file_records file)) g) → r ≡ group_part file g
unfolding group_part group_at in_groups
group-accepted file s g r h e = e ∙ rw h

-- ---- a group

groups-sound : (file : Bytes) (s : Summary) → judge file ≡ fine s → All Sound (groups_in file)
groups-sound file s h =
    let gs = groups_in file in
    let a = accepted file s h in
    parts-sound gs (good-kept gs (decomposed file s h).groups) (inner-read gs (file_records file) (is-file file s h).enclosed (run-read 0 start a.last (file_records file) a.runs))

group-sound : (file : Bytes) (g : ℕ) (x : Placed) → group_at file g ≡ fine x → Sound x.records
unfolding group_at part_in groups_in
group-sound file g x h = from-bind (judge file) _ x h (λ s accepts rest. part-has Sound _ (groups_in file) g x (groups-sound file s accepts) rest)

group-envelope : (rs : List Record) → IsGroup rs → Kept rs → Envelope account_header group_trailer rs
unfolding in_accounts among same_bytes
group-envelope rs i k =
    enveloped group_header account_header group_trailer account_codes (accounts_in rs) rs
    (record { c-else = tt; d-else = tt; c-88 = tt; d-88 = tt; d-c = tt }) i.enclosed
    (accounts-begin (accounts_in rs) i.accounts) (inner-kept (accounts_in rs) rs i.enclosed k).are-records (group-cut rs i)

group-refuses : (file : Bytes) (g : ℕ) → Numbered (group_at file g)
unfolding group_at
group-refuses file g = bind-refuses (judge file) _ (λ why e. (reader-numbers file why e).0) (λ s. in-refuses 0 (in_groups (file_records file)) g)

pub outer-group : (file : Bytes) (g : ℕ) → Outer account_header group_trailer file (group_at file g)
outer-group file g =
    record {
      stands = λ x h.
          let kept = (group-sound file g x h).kept in
          record {
            slice = group-is-slice file g x h;
            alone = kept-alone x.records kept;
            envelope = group-envelope x.records (group-part file g x h).is-part kept;
          };
      refuses = group-refuses file g;
    }

-- ---- an account

account-sound : (file : Bytes) (g a : ℕ) (x : Placed) → account_at file g a ≡ fine x → Sound x.records
unfolding account_at part_in accounts_in
account-sound file g a x h =
    from-bind (group_at file g) _ x h (λ group first rest.
    let rs = group.records in
    part-has Sound _ (accounts_in rs) a x (inner-sound (accounts_in rs) rs (group-part file g group first).is-part.enclosed (group-sound file g group first)) rest)

account-envelope : (rs : List Record) → IsAccount rs → Kept rs → Envelope detail account_trailer rs
unfolding in_details among same_bytes
account-envelope rs i k =
    enveloped account_header detail account_trailer [] (details_in rs) rs
    (record { c-else = tt; d-else = tt; c-88 = tt; d-88 = tt; d-c = tt }) i.enclosed
    (details-begin (details_in rs) i.details) (inner-kept (details_in rs) rs i.enclosed k).are-records (account-cut rs i)

pub account-refuses : (file : Bytes) (g a : ℕ) → Numbered (account_at file g a)
unfolding account_at
account-refuses file g a = bind-refuses (group_at file g) _ (group-refuses file g) (λ x. in-refuses x.place (in_accounts x.records) a)

pub outer-account : (file : Bytes) (g a : ℕ) → Outer detail account_trailer file (account_at file g a)
outer-account file g a =
    record {
      stands = λ x h.
          let kept = (account-sound file g a x h).kept in
          record {
            slice = account-is-slice file g a x h;
            alone = kept-alone x.records kept;
            envelope = account-envelope x.records (account-part file g a x h).is-part kept;
          };
      refuses = account-refuses file g a;
    }

-- a 03 that was read, before the account's other records, in a slice of the file that reads as they do
pub record AccountStands (file : Bytes) (x : Placed) : Type 0 where
  pub header : Record
  pub others : List Record
  pub whole : x.records ≡ header ∷ others
  pub fields : List Field
  pub walked : walk_record account_header header ≡ fine fields
  pub reads : file_records (take (length (record_bytes x.records)) (drop x.place file)) ≡ x.records

pub account-stands : (file : Bytes) (g a : ℕ) (x : Placed) → account_at file g a ≡ fine x → AccountStands file x
account-stands file g a x h =
    let e = (account-part file g a x h).is-part.enclosed in
    let s = account-sound file g a x h in
    let read = (subst (All Read) e.whole s.read).0 in
    record {
      header = e.header;
      others = concat (details_in x.records) ++ (e.trailer ∷ []);
      whole = e.whole;
      fields = read.fields;
      walked = ap (λ (c : Code). walk_record c e.header) (one_code account_header read.code e.header e.is-header read.is_code) ∙ read.walked;
      reads = ap file_records (account-is-slice file g a x h) ∙ kept-alone x.records s.kept;
    }

-- ---- a detail

detail-sound : (file : Bytes) (g a d : ℕ) (x : Placed) → detail_part_at file g a d ≡ fine x → Sound x.records
unfolding detail_part_at part_in details_in
detail-sound file g a d x h =
    from-bind (account_at file g a) _ x h (λ account first rest.
    let rs = account.records in
    part-has Sound _ (details_in rs) d x (inner-sound (details_in rs) rs (account-part file g a account first).is-part.enclosed (account-sound file g a account first)) rest)

pub detail-refuses : (file : Bytes) (g a d : ℕ) → Numbered (detail_part_at file g a d)
unfolding detail_part_at
detail-refuses file g a d = bind-refuses (account_at file g a) _ (account-refuses file g a) (λ x. in-refuses x.place (in_details x.records) d)

-- one record, read as a 16, in a slice of the file that has its lines
pub record DetailStands (file : Bytes) (x : Placed) : Type 0 where
  pub record_of : Record
  pub one : x.records ≡ record_of ∷ []
  pub fields : List Field
  pub walked : walk_record detail record_of ≡ fine fields
  pub lines : lines_of (take (length (record_bytes x.records)) (drop x.place file)) ≡ record_of

one-detail : (file : Bytes) (x : Placed) (rs : List Record) → x.records ≡ rs → IsDetail rs → Sound rs
    → take (length (record_bytes x.records)) (drop x.place file) ≡ record_bytes rs → DetailStands file x
unfolding concat
one-detail file x [] e i s slice = absurd i
one-detail file x (r ∷ q ∷ rs) e i s slice = absurd i
one-detail file x (r ∷ []) e i s slice =
    let read = s.read.0 in
    record {
      record_of = r;
      one = e;
      fields = read.fields;
      walked = ap (λ (c : Code). walk_record c r) (one_code detail read.code r i read.is_code) ∙ read.walked;
      lines = ap lines_of slice ∙ lines_are (record_bytes (r ∷ [])) (r ∷ []) (kept-alone (r ∷ []) s.kept) ∙ append-nil r;
    }

pub detail-stands : (file : Bytes) (g a d : ℕ) (x : Placed) → detail_part_at file g a d ≡ fine x → DetailStands file x
detail-stands file g a d x h = one-detail file x x.records refl (detail-part file g a d x h).is-part (detail-sound file g a d x h) (detail-is-slice file g a d x h)
