-- The first record of bytes is the lines of a part of them. Assumes nothing.
use Prim.Native.Nat.{ℕ, suc, ◌+◌, ◌<◌}
use mathlib.Core.Path.{◌≡◌, refl, ap, sym, ◌∙◌}
use mathlib.Core.List.{List, [], ◌∷◌}
use mathlib.Core.Bool.{cond}
use native.Mathlib.Omega.{arith}
use native.Mathlib.Nat.{suc-add}
use lib.ListN.{length, take, drop}
use lib.Seq.{drop-drop}
use lib.Dec.{eqb}
use Rattle.rules.specs.Bytes.{Bytes, LF, CR}
use Rattle.rules.specs.Lines.{LineEnd, lacking, lf, crlf, end_bytes, Line, size_of, longer_line, longer_first, lines_of, begins, continuation, line_before, records_of, record_size}
use Rattle.rules.proofs.Tests.{Known, holds, fails, known}
use Rattle.read_lines.specs.LineLengths.{line_len, first_line, further, first_record}
use Rattle.read_lines.proofs.LineLengthLaws.{first_of, first-of-part, first_body}

-- the lines after the 88 lines in front
unfoldable rest : List Line → List Line
rest [] = []
rest (l ∷ ls) = cond (begins continuation l) (rest ls) (l ∷ ls)

-- the first record of lines
first-record-step : (l m : Line) (ls : List Line) → ((k : Line) → records_of (k ∷ ls) ≡ (k ∷ further ls) ∷ records_of (rest ls)) → Known (begins continuation m)
    → line_before l (begins continuation m) (records_of (m ∷ ls)) ≡ (l ∷ further (m ∷ ls)) ∷ records_of (rest (m ∷ ls))
unfolding line_before further rest
first-record-step l m ls ih (holds e) = rw (e, ih m)
first-record-step l m ls ih (fails e) = rw e

first-record : (ls : List Line) (l : Line) → records_of (l ∷ ls) ≡ (l ∷ further ls) ∷ records_of (rest ls)
unfolding records_of further rest
first-record [] l = refl
first-record (m ∷ ls) l = first-record-step l m ls (first-record ls) (known (begins continuation m))

-- a line's size
pub first-size : (xs : Bytes) → size_of (first_line xs) ≡ line_len xs
first-size xs = rw (first_body xs)

-- bytes whose first lines are 88 lines: those, and the lines after them, are the lines of two parts
abbrev Cuts : List Line → Bytes → Type 0
Cuts ls xs = (lines_of (take (record_size (further ls)) xs) ≡ further ls) × (lines_of (drop (record_size (further ls)) xs) ≡ rest ls)

-- bytes with a line are some
some_bytes : (l : Line) (ls : List Line) (xs : Bytes) → lines_of xs ≡ l ∷ ls → 0 < length xs
unfolding lines_of
some_bytes l ls [] h = let z : ◌≡◌ {A = ℕ} 0 1 = cc in absurd (omega arith)
some_bytes l ls (b ∷ bs) h = omega arith

cuts-step : (l : Line) (ls : List Line) (xs : Bytes) → lines_of xs ≡ l ∷ ls
    → (lines_of (drop (line_len xs) xs) ≡ ls → Cuts ls (drop (line_len xs) xs)) → Known (begins continuation l) → Cuts (l ∷ ls) xs
unfolding further rest record_size lines_of
cuts-step l ls xs h ih (fails t) = (rw t, rw t h)
cuts-step l ls xs h ih (holds t) =
    let s = some_bytes l ls xs h in
    let f = first_of xs s in
    let a : first_line xs ≡ l = cc in
    let b : lines_of (drop (line_len xs) xs) ≡ ls = cc in
    let n : size_of l ≡ line_len xs = ap (λ (m : Line). size_of m) (sym a) ∙ first-size xs in
    let i = ih b in
    rw (t, n) ((first-of-part xs (record_size (further ls)) s ∙ rw (a, i.0), rw (← drop-drop) i.1))

cuts : (ls : List Line) (xs : Bytes) → lines_of xs ≡ ls → Cuts ls xs
unfolding further rest record_size lines_of
cuts [] xs h = (refl, h)
cuts (l ∷ ls) xs h = cuts-step l ls xs h (cuts ls (drop (line_len xs) xs)) (known (begins continuation l))

-- THE FIRST RECORD of a file of one byte or more, and the file after it
module _ (xs : Bytes) (k : ℕ) (e : k ≡ record_size (first_record (lines_of xs))) (h : 0 < length xs) where
  extent : k ≡ line_len xs + record_size (further (lines_of (drop (line_len xs) xs)))
  unfolding first_record record_size
  extent = e ∙ rw (first_of xs h) (rw (first-size xs))

  pub first_part : lines_of (take k xs) ≡ first_record (lines_of xs)
  unfolding first_record
  first_part =
      let ls : List Line = lines_of (drop (line_len xs) xs) in
      let i = cuts ls (drop (line_len xs) xs) refl in
      rw (extent, first_of xs h) (first-of-part xs (record_size (further ls)) h ∙ rw i.0)

  pub one-record : records_of (lines_of xs) ≡ first_record (lines_of xs) ∷ records_of (lines_of (drop k xs))
  unfolding first_record
  one-record =
      let ls : List Line = lines_of (drop (line_len xs) xs) in
      let i = cuts ls (drop (line_len xs) xs) refl in
      let b : lines_of (drop k xs) ≡ rest ls = rw extent (rw (← drop-drop) i.1) in
      rw (b, first_of xs h) (first-record ls (first_line xs))

-- how many bytes lines have
longer-size : (b : ℕ) (bs : Bytes) (e : LineEnd) → size_of (longer_line b bs e) ≡ suc (length bs + length (end_bytes e))
unfolding longer_line
longer-size b (c ∷ cs) e = suc-add (suc (length cs)) (length (end_bytes e))
longer-size b [] lacking = refl
longer-size b [] crlf = refl
longer-size b [] lf = by-cr (known (eqb b CR))
  where
    by-cr : Known (eqb b CR) → size_of (longer_line b [] lf) ≡ 2
    by-cr (holds e) = rw e
    by-cr (fails e) = rw e

longer-first-size : (b : ℕ) (ls : List Line) → record_size (longer_first b ls) ≡ suc (record_size ls)
unfolding longer_first record_size
longer-first-size b [] = refl
longer-first-size b (l ∷ ls) = rw (longer-size b l.body l.line_end) (suc-add (size_of l) (record_size ls))

lines-size-step : (b : ℕ) (bs : Bytes) → record_size (lines_of bs) ≡ length bs → Known (eqb b LF) → record_size (lines_of (b ∷ bs)) ≡ suc (length bs)
unfolding lines_of record_size
lines-size-step b bs ih (holds e) = rw e (rw ih (omega arith))
lines-size-step b bs ih (fails e) = rw e (longer-first-size b (lines_of bs) ∙ ap suc ih)

pub lines-size : (xs : Bytes) → record_size (lines_of xs) ≡ length xs
unfolding lines_of record_size
lines-size [] = refl
lines-size (b ∷ bs) = lines-size-step b bs (lines-size bs) (known (eqb b LF))
