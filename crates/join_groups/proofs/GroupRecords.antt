-- Bytes up to where some of their records end, and from there on; the first record by its code; lines of other codes are passed over. Assumes nothing.
use Prim.Native.Nat.{ℕ, ◌+◌, ◌≤◌, ◌<◌}
use native.Mathlib.Omega.{arith}
use mathlib.Core.Path.{◌≡◌, refl, sym, ap, subst, ◌∙◌}
use mathlib.Core.Bool.{true, false, not, ◌||◌}
use mathlib.Core.List.{List, [], ◌∷◌, ◌++◌}
use lib.Dec.{T}
use lib.ListN.{length, take, drop, length-append}
use lib.Seq.{drop-drop, take-append_seam}
use Rattle.rules.specs.Bytes.{Bytes, same_bytes}
use Rattle.rules.specs.Lines.{Line, lines_of, Code, continuation, code_bytes, begins, Record, records_of, record_size, record_bytes, file_records}
use Rattle.rules.specs.Order.{among}
use Rattle.rules.specs.Parts.{heads, size_of_all}
use Rattle.rules.specs.Combine.{concat}
use Rattle.rules.proofs.LineLaws.{file-bytes}
use Rattle.read_lines.specs.LineLengths.{first_record}
use Rattle.read_lines.proofs.LineLengthLaws.{first_of}
use Rattle.read_lines.proofs.OneRecord.{one-record, first_part}
use Rattle.read_lines.proofs.Fronts.{begins-front}
use Rattle.find_lines.specs.LinesOfCode.{bytes_before}
use Rattle.laws.specs.LawWords.{All, Continues, IsRecord, Of}
use Rattle.laws.proofs.Lists.{all_both}
use Rattle.laws.proofs.Codes.{of-own, not-of}
use Rattle.laws.proofs.KeptBytes.{bytes-append, records-lines}
use Rattle.laws.proofs.PartSlices.{size-length}

-- ---- records in front of bytes, and the bytes after them

pub some_bytes : (xs : Bytes) (r : Record) (rs : List Record) → file_records xs ≡ r ∷ rs → 0 < length xs
unfolding file_records lines_of records_of
some_bytes [] r rs h = let z : ◌≡◌ {A = ℕ} 0 1 = cc in absurd (omega arith)
some_bytes (b ∷ bs) r rs h = omega arith

module _ (xs : Bytes) (r : Record) (rs : List Record) (h : file_records xs ≡ r ∷ rs) where
  abbrev size : ℕ
  size = record_size (first_record (lines_of xs))

  first-and-rest : first_record (lines_of xs) ∷ file_records (drop size xs) ≡ r ∷ rs
  unfolding file_records
  first-and-rest = sym (one-record xs size refl (some_bytes xs r rs h)) ∙ h

  pub first-is : first_record (lines_of xs) ≡ r
  first-is = let e = first-and-rest in cc

  pub first-lines : lines_of (take (record_size r) xs) ≡ r
  first-lines = first_part xs (record_size r) (ap record_size (sym first-is)) (some_bytes xs r rs h) ∙ first-is

  after_first : file_records (drop (record_size r) xs) ≡ rs
  after_first = let e = first-and-rest in let n = ap record_size first-is in subst (λ (k : ℕ). file_records (drop k xs) ≡ rs) n (cc)

  -- its code is what the bytes begin with
  pub heads-front : (c : Code) → heads c r ≡ same_bytes (code_bytes c) (take 3 xs)
  unfolding first_record
  heads-front c =
      ap (λ (q : Record). heads c q) (sym first-is) ∙ rw (first_of xs (some_bytes xs r rs h)) (begins-front c xs)

pub records-drop : (rs qs : List Record) (xs : Bytes) → file_records xs ≡ rs ++ qs → file_records (drop (size_of_all rs) xs) ≡ qs
unfolding size_of_all
records-drop [] qs xs h = h
records-drop (r ∷ rs) qs xs h =
    ap file_records (sym (drop-drop (size_of_all rs) (record_size r) xs)) ∙ records-drop rs qs (drop (record_size r) xs) (after_first xs r (rs ++ qs) h)

pub records-take : (rs qs : List Record) (xs : Bytes) → file_records xs ≡ rs ++ qs → take (size_of_all rs) xs ≡ record_bytes rs
records-take rs qs xs h =
    let whole : xs ≡ record_bytes rs ++ record_bytes qs = sym (file-bytes xs) ∙ ap record_bytes h ∙ bytes-append rs qs in
    ap (λ (bs : Bytes). take (size_of_all rs) bs) whole ∙ rw (size-length rs) (take-append_seam (record_bytes rs) (record_bytes qs))

pub records-fit : (rs qs : List Record) (xs : Bytes) → file_records xs ≡ rs ++ qs → size_of_all rs ≤ length xs
records-fit rs qs xs h =
    let whole : xs ≡ record_bytes rs ++ record_bytes qs = sym (file-bytes xs) ∙ ap record_bytes h ∙ bytes-append rs qs in
    omega (arith, size-length rs, ap length whole, length-append (record_bytes rs) (record_bytes qs))

-- ---- sizes

pub size-append : (ls ms : List Line) → record_size (ls ++ ms) ≡ record_size ls + record_size ms
unfolding record_size
size-append [] ms = omega arith
size-append (l ∷ ls) ms = rw (size-append ls ms) (omega arith)

pub size-joined : (rs : List Record) → record_size (concat rs) ≡ size_of_all rs
unfolding concat record_size size_of_all
size-joined [] = refl
size-joined (r ∷ rs) = size-append r (concat rs) ∙ rw (size-joined rs)

pub sizes-append : (rs qs : List Record) → size_of_all (rs ++ qs) ≡ size_of_all rs + size_of_all qs
unfolding size_of_all
sizes-append [] qs = omega arith
sizes-append (r ∷ rs) qs = rw (sizes-append rs qs) (omega arith)

-- ---- lines of other codes are passed over

module _ (c d : Code) where
  abbrev pub Passed : Line → Type 0
  Passed l = (begins c l || begins d l) ≡ false

  pub before-past : (ls ms : List Line) → All Passed ls → bytes_before c d (ls ++ ms) ≡ record_size ls + bytes_before c d ms
  unfolding bytes_before record_size
  before-past [] ms a = omega arith
  before-past (l ∷ ls) ms a = rw (a.0, before-past ls ms a.1) (omega arith)

  pub before-first : (r ms : List Line) → (heads c r || heads d r) ≡ true → bytes_before c d (r ++ ms) ≡ 0
  unfolding bytes_before
  before-first [] ms h = let z : ◌≡◌ {A = ℕ} 0 1 = cc in absurd (omega arith)
  before-first (l ∷ ls) ms h = rw h

  pub passed-88 : T (not (among c (continuation ∷ []))) → T (not (among d (continuation ∷ []))) → (ls : List Line) → All Continues ls → All Passed ls
  passed-88 c-88 d-88 [] a = tt
  passed-88 c-88 d-88 (l ∷ ls) a =
      let o = of-own continuation [] (l ∷ []) a.0 in
      (rw (not-of (continuation ∷ []) c (l ∷ []) c-88 o, not-of (continuation ∷ []) d (l ∷ []) d-88 o), passed-88 c-88 d-88 ls a.1)

  module _ (cs : List Code) (c-else : T (not (among c cs))) (d-else : T (not (among d cs)))
      (c-88 : T (not (among c (continuation ∷ [])))) (d-88 : T (not (among d (continuation ∷ [])))) where
    pub passed-record : (r : Record) → Of cs r → IsRecord r → All Passed r
    passed-record [] o i = absurd i
    passed-record (l ∷ ls) o i = (rw (not-of cs c (l ∷ ls) c-else o, not-of cs d (l ∷ ls) d-else o), passed-88 c-88 d-88 ls i.1)

    pub passed-records : (rs : List Record) → All (Of cs) rs → All IsRecord rs → All Passed (concat rs)
    unfolding concat
    passed-records [] o i = tt
    passed-records (r ∷ rs) o i = all_both Passed r (concat rs) (passed-record r o.0 i.0) (passed-records rs o.1 i.1)

-- the lines of bytes are those of their records
pub lines_are : (xs : Bytes) (rs : List Record) → file_records xs ≡ rs → lines_of xs ≡ concat rs
unfolding file_records
lines_are xs rs h = sym (records-lines (lines_of xs)) ∙ ap concat h
