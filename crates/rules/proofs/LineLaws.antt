-- A file is its lines and its records: nothing is lost, and a file's records are found part by part. Assumes nothing.
use mathlib.Core.Path.{◌≡◌, refl, sym, ap, ◌∙◌}
use mathlib.Core.Bool.{Bool, true, false, cond, not}
use mathlib.Core.List.{List, [], ◌∷◌, ◌++◌, append_assoc, append-nil}
use Prim.Native.Nat.{ℕ}
use lib.Dec.{T, eqb}
use Rattle.rules.specs.Bytes.{Bytes, LF, CR, all}
use Rattle.rules.specs.Lines.{LineEnd, lacking, lf, crlf, Line, longer_line, longer_first, lines_of, continuation, begins, Record, line_before, records_of, line_bytes, record_bytes, file_records}
use Rattle.rules.specs.Parts.{heads}
use Rattle.rules.proofs.Tests.{Known, holds, fails, known, true-eq, is_true, not-false, and_left, and_right}

-- ---- nothing is lost

-- the bytes of a file's lines are the file
pub longer-bytes : (b : ℕ) (bs : Bytes) (e : LineEnd) (ls : List Line)
    → line_bytes (longer_line b bs e ∷ ls) ≡ b ∷ line_bytes (record { body = bs; line_end = e } ∷ ls)
unfolding line_bytes longer_line
longer-bytes b (c ∷ cs) e ls = refl
longer-bytes b [] lacking ls = refl
longer-bytes b [] crlf ls = refl
longer-bytes b [] lf ls = by_cases (known (eqb b CR))
  where
    by_cases : Known (eqb b CR) → line_bytes (longer_line b [] lf ∷ ls) ≡ b ∷ line_bytes (record { body = []; line_end = lf } ∷ ls)
    by_cases (holds e) = rw e (ap (λ (x : ℕ). x ∷ LF ∷ line_bytes ls) (sym (true-eq b CR e)))
    by_cases (fails e) = rw e

first-bytes : (b : ℕ) (ls : List Line) → line_bytes (longer_first b ls) ≡ b ∷ line_bytes ls
unfolding line_bytes longer_first
first-bytes b [] = refl
first-bytes b (l ∷ ls) = longer-bytes b l.body l.line_end ls

lines_step : (b : ℕ) (bs : Bytes) → line_bytes (lines_of bs) ≡ bs → Known (eqb b LF) → line_bytes (lines_of (b ∷ bs)) ≡ b ∷ bs
unfolding line_bytes lines_of
lines_step b bs ih (holds e) = rw e (rw (ih, true-eq b LF e))
lines_step b bs ih (fails e) = rw e (first-bytes b (lines_of bs) ∙ ap (λ (x : Bytes). b ∷ x) ih)

pub lines-bytes : (bs : Bytes) → line_bytes (lines_of bs) ≡ bs
unfolding line_bytes lines_of
lines-bytes [] = refl
lines-bytes (b ∷ bs) = lines_step b bs (lines-bytes bs) (known (eqb b LF))

-- the bytes of the records are the bytes of the lines
before-bytes : (l : Line) (t : Bool) (rs : List Record) → record_bytes (line_before l t rs) ≡ line_bytes (l ∷ []) ++ record_bytes rs
unfolding record_bytes line_before line_bytes
before-bytes l true [] = simp append-nil
before-bytes l true (r ∷ rs) = simp (append_assoc, append-nil)
before-bytes l false rs = refl

pub records-bytes : (ls : List Line) → record_bytes (records_of ls) ≡ line_bytes ls
unfolding record_bytes records_of line_bytes
records-bytes [] = refl
records-bytes (l ∷ []) = simp append-nil
records-bytes (l ∷ m ∷ ls) = before-bytes l (begins continuation m) (records_of (m ∷ ls)) ∙ rw (records-bytes (m ∷ ls)) (simp (append_assoc, append-nil))

-- a file is the bytes of its records
pub file-bytes : (file : Bytes) → record_bytes (file_records file) ≡ file
unfolding file_records
file-bytes file = records-bytes (lines_of file) ∙ lines-bytes file

-- ---- the first line

-- a byte that ends no line
abbrev pub in_line : ℕ → Bool
in_line b = not (eqb b LF)

pub plain-line : (b : ℕ) (bs : Bytes) → T (in_line b) → lines_of (b ∷ bs) ≡ longer_first b (lines_of bs)
unfolding lines_of
plain-line b bs h = rw (not-false (eqb b LF) h)

longer-crlf : (b : ℕ) (w : Bytes) → longer_line b w crlf ≡ record { body = b ∷ w; line_end = crlf }
unfolding longer_line
longer-crlf b [] = refl
longer-crlf b (c ∷ w) = refl

-- ended by CR LF
pub lines-crlf : (w bs : Bytes) → T (all in_line w) → lines_of (w ++ (CR ∷ LF ∷ bs)) ≡ record { body = w; line_end = crlf } ∷ lines_of bs
unfolding all lines_of longer_first longer_line
lines-crlf [] bs h = refl
lines-crlf (b ∷ w) bs h =
    plain-line b (w ++ (CR ∷ LF ∷ bs)) (and_left (in_line b) (all in_line w) h)
    ∙ rw (lines-crlf w bs (and_right (in_line b) (all in_line w) h), longer-crlf)

-- the last byte is no CR
unfoldable pub no_cr : Bytes → Bool
no_cr [] = true
no_cr (b ∷ []) = not (eqb b CR)
no_cr (b ∷ c ∷ bs) = no_cr (c ∷ bs)

longer-lf : (b : ℕ) (w : Bytes) → T (no_cr (b ∷ w)) → longer_line b w lf ≡ record { body = b ∷ w; line_end = lf }
unfolding longer_line no_cr
longer-lf b [] h = rw (not-false (eqb b CR) h)
longer-lf b (c ∷ w) h = refl

no-cr-after : (b : ℕ) (w : Bytes) → T (no_cr (b ∷ w)) → T (no_cr w)
unfolding no_cr
no-cr-after b [] h = tt
no-cr-after b (c ∷ w) h = h

-- ended by LF alone
pub lines-lf : (w bs : Bytes) → T (all in_line w) → T (no_cr w) → lines_of (w ++ (LF ∷ bs)) ≡ record { body = w; line_end = lf } ∷ lines_of bs
unfolding all lines_of longer_first
lines-lf [] bs h n = refl
lines-lf (b ∷ w) bs h n =
    plain-line b (w ++ (LF ∷ bs)) (and_left (in_line b) (all in_line w) h)
    ∙ rw (lines-lf w bs (and_right (in_line b) (all in_line w) h) (no-cr-after b w n), longer-lf b w n)

longer-lacking : (b : ℕ) (w : Bytes) → longer_line b w lacking ≡ record { body = b ∷ w; line_end = lacking }
unfolding longer_line
longer-lacking b [] = refl
longer-lacking b (c ∷ w) = refl

-- the last line without its end
pub lines-lacking : (b : ℕ) (w : Bytes) → T (all in_line (b ∷ w)) → lines_of (b ∷ w) ≡ record { body = b ∷ w; line_end = lacking } ∷ []
unfolding all lines_of longer_first
lines-lacking b [] h = plain-line b [] (and_left (in_line b) true h)
lines-lacking b (c ∷ w) h =
    plain-line b (c ∷ w) (and_left (in_line b) (all in_line (c ∷ w)) h)
    ∙ rw (lines-lacking c w (and_right (in_line b) (all in_line (c ∷ w)) h), longer-lacking)

-- ---- records of a concatenation

abbrev some? : {A : Type 0} → List A → Bool
some? [] = false
some? (l ∷ ls) = true

-- where the second lines don't begin with an 88, the records of both are the records of the first and the records of the second
before-some : (l : Line) (t : Bool) (rs : List Record) → T (some? (line_before l t rs))
unfolding line_before
before-some l true [] = tt
before-some l true (r ∷ rs) = tt
before-some l false rs = tt

records-some : (l : Line) (ls : List Line) → T (some? (records_of (l ∷ ls)))
unfolding records_of
records-some l [] = tt
records-some l (m ∷ ls) = before-some l (begins continuation m) (records_of (m ∷ ls))

before-append : (l : Line) (t : Bool) (rs qs : List Record) → T (some? rs) → line_before l t (rs ++ qs) ≡ line_before l t rs ++ qs
unfolding line_before
before-append l true [] qs h = absurd h
before-append l true (r ∷ rs) qs h = refl
before-append l false rs qs h = refl

pub records-append : (ls ms : List Line) → T (not (heads continuation ms)) → records_of (ls ++ ms) ≡ records_of ls ++ records_of ms
unfolding records_of line_before
records-append [] ms h = refl
records-append (l ∷ []) [] h = refl
records-append (l ∷ []) (m ∷ ms) h = rw (not-false (begins continuation m) h)
records-append (l ∷ m ∷ ls) ms h =
    rw (records-append (m ∷ ls) ms h) (before-append l (begins continuation m) (records_of (m ∷ ls)) (records_of ms) (records-some m ls))
