-- Records that stay themselves wherever their bytes stand before a line that isn't an 88, as a file's header and groups do. Assumes nothing.
use Prim.Native.Nat.{ℕ}
use mathlib.Core.Path.{◌≡◌, refl, sym, ap, subst, ◌∙◌}
use mathlib.Core.Bool.{Bool, true, false, not}
use mathlib.Core.List.{List, [], ◌∷◌, ◌++◌, append_assoc, append-nil}
use native.Mathlib.Omega.{arith}
use lib.Dec.{T}
use Rattle.rules.specs.Bytes.{Bytes, same_bytes}
use Rattle.rules.specs.Lines.{Line, whole_line, lines_of, line_bytes, Code, file_header, continuation, begins, Record, line_before, records_of, record_bytes, file_records}
use Rattle.rules.specs.Order.{among}
use Rattle.rules.specs.Parts.{heads}
use Rattle.rules.specs.Combine.{concat}
use Rattle.rules.proofs.Tests.{Known, holds, fails, known, is_true}
use Rattle.rules.proofs.LineLaws.{records-append}
use Rattle.laws.specs.LawWords.{All, parts_of, ends_in_lf, Continues, IsRecord, Kept, Whole}
use Rattle.laws.proofs.Lists.{all_left, all_right, all_both, concat-append}
use Rattle.laws.proofs.Codes.{of-own, not-of}
use Rattle.laws.proofs.WholeLines.{AllButLast, lines-whole, wholes-stay, front-wholes, lines_end}

-- the records of lines: the first line with all 88s after it, then others that are records
pub record First (l : Line) (rs : List Record) : Type 0 where
  pub more : List Line
  pub others : List Record
  pub split : rs ≡ (l ∷ more) ∷ others
  pub more-88 : All Continues more
  pub are-records : All IsRecord others

first_step : (l m : Line) (rs : List Record) → First m rs → Known (begins continuation m) → First l (line_before l (begins continuation m) rs)
unfolding line_before
first_step l m rs f (holds e) =
    record {
      more = m ∷ f.more;
      others = f.others;
      split = rw (e, f.split);
      more-88 = (rw e tt, f.more-88);
      are-records = f.are-records;
    }
first_step l m rs f (fails e) =
    record {
      more = [];
      others = (m ∷ f.more) ∷ f.others;
      split = rw (e, f.split);
      more-88 = tt;
      are-records = ((rw e tt, f.more-88), f.are-records);
    }

pub records-first : (l : Line) (ls : List Line) → First l (records_of (l ∷ ls))
unfolding records_of
records-first l [] = record { more = []; others = []; split = refl; more-88 = tt; are-records = tt }
records-first l (m ∷ ls) = first_step l m (records_of (m ∷ ls)) (records-first m ls) (known (begins continuation m))

-- the lines of the records are the lines
before-lines : (l : Line) (t : Bool) (rs : List Record) → concat (line_before l t rs) ≡ l ∷ concat rs
unfolding concat line_before
before-lines l true [] = refl
before-lines l true (r ∷ rs) = refl
before-lines l false rs = refl

pub records-lines : (ls : List Line) → concat (records_of ls) ≡ ls
unfolding concat records_of
records-lines [] = refl
records-lines (l ∷ []) = refl
records-lines (l ∷ m ∷ ls) = before-lines l (begins continuation m) (records_of (m ∷ ls)) ∙ rw (records-lines (m ∷ ls))

-- ---- records stay

one-record : (l : Line) (ls : List Line) → All Continues ls → records_of (l ∷ ls) ≡ (l ∷ ls) ∷ []
unfolding records_of line_before
one-record l [] c = refl
one-record l (k ∷ ls) c = rw (one-record k ls c.1, is_true (begins continuation k) c.0)

pub fresh-concat : (rs : List Record) (ms : List Line) → All IsRecord rs → T (not (heads continuation ms)) → T (not (heads continuation (concat rs ++ ms)))
unfolding concat
fresh-concat [] ms a f = f
fresh-concat ([] ∷ rs) ms a f = absurd a.0
fresh-concat ((l ∷ ls) ∷ rs) ms a f = a.0.0

pub records-stay : (rs : List Record) (ms : List Line) → All IsRecord rs → T (not (heads continuation ms)) → records_of (concat rs ++ ms) ≡ rs ++ records_of ms
unfolding concat
records-stay [] ms a f = refl
records-stay ([] ∷ rs) ms a f = absurd a.0
records-stay ((l ∷ ls) ∷ rs) ms a f =
    ap (λ (x : List Line). records_of (l ∷ x)) (append_assoc ls (concat rs) ms)
    ∙ records-append (l ∷ ls) (concat rs ++ ms) (fresh-concat rs ms a.1 f)
    ∙ rw (one-record l ls a.0.1, records-stay rs ms a.1 f)

line-bytes-append : (ls ms : List Line) → line_bytes (ls ++ ms) ≡ line_bytes ls ++ line_bytes ms
unfolding line_bytes
line-bytes-append [] ms = refl
line-bytes-append (l ∷ ls) ms = rw (line-bytes-append ls ms) (sym (append_assoc (whole_line l) (line_bytes ls) (line_bytes ms)))

pub bytes-joined : (rs : List Record) → record_bytes rs ≡ line_bytes (concat rs)
unfolding record_bytes line_bytes concat
bytes-joined [] = refl
bytes-joined (r ∷ rs) = rw (bytes-joined rs) (sym (line-bytes-append r (concat rs)))

pub kept-stay : (rs : List Record) (bs : Bytes) → Kept rs → T (not (heads continuation (lines_of bs))) → file_records (record_bytes rs ++ bs) ≡ rs ++ file_records bs
unfolding file_records
kept-stay rs bs k f =
    rw (bytes-joined rs, wholes-stay (concat rs) bs k.wholes) (records-stay rs (lines_of bs) k.are-records f)

-- so kept records are known by their bytes
pub kept-alone : (rs : List Record) → Kept rs → file_records (record_bytes rs) ≡ rs
unfolding file_records lines_of records_of
kept-alone rs k = ap file_records (sym (append-nil (record_bytes rs))) ∙ kept-stay rs [] k tt ∙ append-nil rs

pub kept_same : (rs qs : List Record) → Kept rs → Kept qs → record_bytes rs ≡ record_bytes qs → rs ≡ qs
kept_same rs qs k j e = sym (kept-alone rs k) ∙ ap file_records e ∙ kept-alone qs j

-- ---- together and apart

module _ (rs qs : List Record) where
  pub kept-left : Kept (rs ++ qs) → Kept rs
  kept-left k =
      record { wholes = all_left Whole (concat rs) (concat qs) (subst (All Whole) (concat-append rs qs) k.wholes); are-records = all_left IsRecord rs qs k.are-records }

  pub kept-right : Kept (rs ++ qs) → Kept qs
  kept-right k =
      record { wholes = all_right Whole (concat rs) (concat qs) (subst (All Whole) (concat-append rs qs) k.wholes); are-records = all_right IsRecord rs qs k.are-records }

  pub kept-both : Kept rs → Kept qs → Kept (rs ++ qs)
  kept-both k j =
      record {
        wholes = subst (All Whole) (sym (concat-append rs qs)) (all_both Whole (concat rs) (concat qs) k.wholes j.wholes);
        are-records = all_both IsRecord rs qs k.are-records j.are-records;
      }

pub kept-end : (r : Record) (rs : List Record) → Kept (r ∷ rs) → T (ends_in_lf (record_bytes (r ∷ rs)))
unfolding concat
kept-end [] rs k = absurd k.are-records.0
kept-end (l ∷ ls) rs k = rw (bytes-joined ((l ∷ ls) ∷ rs)) (lines_end l (ls ++ concat rs) k.wholes)

-- ---- a file's records but its last

-- all records of a file that begins with a 01 are records, not leading 88s
are-records-of : (ls : List Line) (h : Record) (qs : List Record) → T (heads file_header h) → records_of ls ≡ h ∷ qs → All IsRecord (h ∷ qs)
unfolding records_of among same_bytes
are-records-of [] h qs k e = let z : ◌≡◌ {A = ℕ} 0 1 = cc in absurd (omega arith)
are-records-of (l ∷ ls) h qs k e =
    let f : First l (records_of (l ∷ ls)) = records-first l ls in
    let first : l ∷ f.more ≡ h = cc f.split in
    let others : f.others ≡ qs = cc f.split in
    let begun : T (begins file_header l) = subst (λ (r : Record). T (heads file_header r)) (sym first) k in
    rw (← first, ← others)
    ((rw (not-of (file_header ∷ []) continuation (l ∷ f.more) tt (of-own file_header [] (l ∷ f.more) begun)) tt, f.more-88), f.are-records)

wholes-before : (rs : List Record) (d : Code) (t : Record) → T (heads d t) → AllButLast (concat (rs ++ (t ∷ []))) → All Whole (concat rs)
unfolding concat
wholes-before rs d [] k h = absurd k
wholes-before rs d (m ∷ ms) k h = front-wholes (concat rs) m (ms ++ []) (subst AllButLast (concat-append rs ((m ∷ ms) ∷ [])) h)

pub file-kept : (file : Bytes) (h : Record) (rs : List Record) (d : Code) (t : Record) → file_records file ≡ h ∷ (rs ++ (t ∷ []))
    → T (heads file_header h) → T (heads d t) → Kept (h ∷ rs)
unfolding file_records
file-kept file h rs d t e is-h is-t =
    record {
      wholes =
          wholes-before (h ∷ rs) d t is-t
          (subst (λ (x : List Record). AllButLast (concat x)) e (subst AllButLast (sym (records-lines (lines_of file))) (lines-whole file)));
      are-records = all_left IsRecord (h ∷ rs) (t ∷ []) (are-records-of (lines_of file) h (rs ++ (t ∷ [])) is-h e);
    }

-- ---- bytes of records

pub bytes-append : (rs qs : List Record) → record_bytes (rs ++ qs) ≡ record_bytes rs ++ record_bytes qs
unfolding record_bytes
bytes-append [] qs = refl
bytes-append (r ∷ rs) qs = rw (bytes-append rs qs) (sym (append_assoc (line_bytes r) (record_bytes rs) (record_bytes qs)))

pub bytes-of-parts : (gs : List (List Record)) → record_bytes (concat gs) ≡ concat (parts_of gs)
unfolding concat parts_of record_bytes
bytes-of-parts [] = refl
bytes-of-parts (g ∷ gs) = bytes-append g (concat gs) ∙ rw (bytes-of-parts gs)

pub parts-append : (gs hs : List (List Record)) → parts_of (gs ++ hs) ≡ parts_of gs ++ parts_of hs
unfolding parts_of
parts-append [] hs = refl
parts-append (g ∷ gs) hs = rw (parts-append gs hs)
