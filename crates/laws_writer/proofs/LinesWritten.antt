-- A written line: its code, its place among the lines and records so far, and the reader's checks 3, 4, 5 and 6. Assumes nothing.
use mathlib.Core.Path.{◌≡◌, refl, ap, ◌∙◌}
use mathlib.Core.Bool.{Bool, true, false}
use mathlib.Core.List.{List, [], ◌∷◌, ◌++◌, append_assoc}
use mathlib.Core.Option.{some}
use Prim.Native.Nat.{ℕ, suc, ◌+◌, ◌≤◌}
use native.Mathlib.Omega.{arith}
use lib.ListN.{length, drop}
use borrow.Author.Tests.{ne_eqb, le-leb}
use Rattle.rules.specs.Bytes.{Bytes, LF, CR, all, allowed, same_bytes}
use Rattle.rules.specs.Outcome.{Outcome, refused, fine, ◌>>=◌}
use Rattle.rules.specs.Lines.{lf, Line, lines_of, Code, file_header, group_header, account_header, detail, account_trailer, group_trailer, file_trailer, continuation, code_bytes, begins, code_in}
use Rattle.rules.specs.Lines.{code_of, Record, line_before, records_of, size_of}
use Rattle.rules.specs.Order.{among}
use Rattle.rules.specs.Verdict.{not_longer, all_allowed, coded, good_line, good_lines, none_longer, in_order}
use Rattle.rules.proofs.Binds.{from-bind, first_fine, refused-fine}
use Rattle.rules.proofs.LineLaws.{in_line, no_cr, lines-lf}
use Rattle.base_digits.proofs.DigitTests.{and_left, and_right, at_least}

-- ---- tests of all bytes

-- what holds of each byte of one sort holds of each of another
pub all_of : (p q : ℕ → Bool) → ((b : ℕ) → p b ≡ true → q b ≡ true) → (bs : Bytes) → all p bs ≡ true → all q bs ≡ true
unfolding all
all_of p q k [] h = refl
all_of p q k (b ∷ bs) h = rw (k b (and_left (p b) (all p bs) h), all_of p q k bs (and_right (p b) (all p bs) h))

pub all_both : (p : ℕ → Bool) (bs cs : Bytes) → all p bs ≡ true → all p cs ≡ true → all p (bs ++ cs) ≡ true
unfolding all
all_both p [] cs h k = k
all_both p (b ∷ bs) cs h k = rw (and_left (p b) (all p bs) h, all_both p bs cs (and_right (p b) (all p bs) h) k)

-- ---- the lines so far, and one more

allowed-in-line : (b : ℕ) → allowed b ≡ true → in_line b ≡ true
allowed-in-line b h = rw (ne_eqb b LF (λ e. omega (arith, at_least 0x20 0x7E b h)))

last-no-cr : (bs : Bytes) → all allowed bs ≡ true → no_cr bs ≡ true
unfolding no_cr all
last-no-cr [] h = refl
last-no-cr (b ∷ []) h = rw (ne_eqb b CR (λ e. omega (arith, at_least 0x20 0x7E b (and_left (allowed b) true h))))
last-no-cr (b ∷ c ∷ bs) h = last-no-cr (c ∷ bs) (and_right (allowed b) (all allowed (c ∷ bs)) h)

first-line : (body bs : Bytes) → all allowed body ≡ true → lines_of (body ++ (LF ∷ bs)) ≡ record { body = body; line_end = lf } ∷ lines_of bs
first-line body bs h = lines-lf body bs (rw (all_of allowed in_line allowed-in-line body h) tt) (rw (last-no-cr body h) tt)

-- lines of the bytes so far are cut the same whatever comes after them
abbrev pub Cut : Bytes → Type 0
Cut bytes = (more : Bytes) → lines_of (bytes ++ more) ≡ lines_of bytes ++ lines_of more

pub cut-none : Cut []
unfolding lines_of
cut-none more = refl

module _ (bytes body : Bytes) (cut : Cut bytes) (h : all allowed body ≡ true) where
  pub lines_more : lines_of (bytes ++ (body ++ (LF ∷ []))) ≡ lines_of bytes ++ (record { body = body; line_end = lf } ∷ [])
  unfolding lines_of
  lines_more = cut (body ++ (LF ∷ [])) ∙ rw (first-line body [] h)

  pub cut-more : Cut (bytes ++ (body ++ (LF ∷ [])))
  cut-more more =
      rw (
        lines_more,
        append_assoc bytes (body ++ (LF ∷ [])) more,
        append_assoc body (LF ∷ []) more,
        append_assoc (lines_of bytes) (record { body = body; line_end = lf } ∷ []) (lines_of more),
      )
      (cut (body ++ (LF ∷ more)) ∙ rw (first-line body more h))

-- ---- the records so far, with an 88 after them

-- the line goes to the last record
unfoldable with_last : List Record → Line → List Record
with_last [] l = (l ∷ []) ∷ []
with_last (r ∷ []) l = (r ++ (l ∷ [])) ∷ []
with_last (r ∷ q ∷ rs) l = r ∷ with_last (q ∷ rs) l

with-last : (rs : List Record) (r : Record) (l : Line) → with_last (rs ++ (r ∷ [])) l ≡ rs ++ ((r ++ (l ∷ [])) ∷ [])
unfolding with_last
with-last [] r l = refl
with-last (q ∷ []) r l = refl
with-last (q ∷ p ∷ rs) r l = rw (with-last (p ∷ rs) r l)

-- some records, of which the first may be longer by a line
before_last : (l : Line) (t : Bool) (r : Record) (rs : List Record) (m : Line) → line_before l t (with_last (r ∷ rs) m) ≡ with_last (line_before l t (r ∷ rs)) m
unfolding line_before with_last
before_last l true r [] m = refl
before_last l false r [] m = refl
before_last l true r (q ∷ rs) m = refl
before_last l false r (q ∷ rs) m = refl

last_step : (l : Line) (t : Bool) (rs : List Record) (m : Line) → 1 ≤ length rs → line_before l t (with_last rs m) ≡ with_last (line_before l t rs) m
last_step l t [] m h = absurd (omega arith)
last_step l t (r ∷ rs) m h = before_last l t r rs m

before-some : (l : Line) (t : Bool) (rs : List Record) → 1 ≤ length (line_before l t rs)
unfolding line_before
before-some l true [] = omega arith
before-some l true (r ∷ rs) = omega arith
before-some l false rs = omega arith

records-some : (l : Line) (ls : List Line) → 1 ≤ length (records_of (l ∷ ls))
unfolding records_of
records-some l [] = omega arith
records-some l (m ∷ ls) = before-some l (begins continuation m) (records_of (m ∷ ls))

records-last : (ls : List Line) (m : Line) → begins continuation m ≡ true → records_of (ls ++ (m ∷ [])) ≡ with_last (records_of ls) m
unfolding records_of with_last line_before
records-last [] m h = refl
records-last (l ∷ []) m h = rw h
records-last (l ∷ n ∷ ls) m h = rw (records-last (n ∷ ls) m h) (last_step l (begins continuation n) (records_of (n ∷ ls)) m (records-some n ls))

-- an 88 goes to the last record
pub to-last-record : (ls : List Line) (rs : List Record) (r : Record) (m : Line) → begins continuation m ≡ true → records_of ls ≡ rs ++ (r ∷ [])
    → records_of (ls ++ (m ∷ [])) ≡ rs ++ ((r ++ (m ∷ [])) ∷ [])
to-last-record ls rs r m h e = records-last ls m h ∙ ap (λ (qs : List Record). with_last qs m) e ∙ with-last rs r m

-- ---- the code

code-found : (c : Code) (rest : Bytes) → code_of (record { body = code_bytes c ++ rest; line_end = lf }) ≡ some c
unfolding code_of code_in begins same_bytes
code-found file_header rest = refl
code-found group_header rest = refl
code-found account_header rest = refl
code-found detail rest = refl
code-found account_trailer rest = refl
code-found group_trailer rest = refl
code-found file_trailer rest = refl
code-found continuation rest = refl

-- three bytes, all allowed
pub record ThreeBytes (c : Code) : Type 0 where
  pub size : length (code_bytes c) ≡ 3
  pub clear : all allowed (code_bytes c) ≡ true
  pub past : (rest : Bytes) → drop 3 (code_bytes c ++ rest) ≡ rest

pub code-bytes : (c : Code) → ThreeBytes c
unfolding all
code-bytes file_header = record { size = refl; clear = refl; past = λ rest. refl }
code-bytes group_header = record { size = refl; clear = refl; past = λ rest. refl }
code-bytes account_header = record { size = refl; clear = refl; past = λ rest. refl }
code-bytes detail = record { size = refl; clear = refl; past = λ rest. refl }
code-bytes account_trailer = record { size = refl; clear = refl; past = λ rest. refl }
code-bytes group_trailer = record { size = refl; clear = refl; past = λ rest. refl }
code-bytes file_trailer = record { size = refl; clear = refl; past = λ rest. refl }
code-bytes continuation = record { size = refl; clear = refl; past = λ rest. refl }

-- ---- 3, 4, 5 and 6

all-allowed : (p : ℕ) (bs : Bytes) → all allowed bs ≡ true → all_allowed p bs ≡ fine tt
unfolding all all_allowed
all-allowed p [] h = refl
all-allowed p (b ∷ bs) h = rw (and_left (allowed b) (all allowed bs) h) (all-allowed (suc p) bs (and_right (allowed b) (all allowed bs) h))

module _ (c : Code) (rest : Bytes) where
  pub good-line : (limit p : ℕ) → all allowed (code_bytes c ++ rest) ≡ true → length (code_bytes c ++ rest) ≤ limit
      → good_lines p limit (record { body = code_bytes c ++ rest; line_end = lf } ∷ []) ≡ fine tt
  unfolding good_lines good_line not_longer coded
  good-line limit p h s = rw (le-leb (length (code_bytes c ++ rest)) limit s, all-allowed p (code_bytes c ++ rest) h, code-found c rest)

  pub in_order_lem : (cs : List Code) (ls : List Line) → among c cs ≡ true → in_order cs (record { body = code_bytes c ++ rest; line_end = lf } ∷ ls) ≡ fine c
  unfolding in_order coded
  in_order_lem cs ls h = rw (code-found c rest, h)

-- good lines stay so with one more good line
good-step : (o : Outcome Code) (q limit : ℕ) (r : Record) (l : Line)
    → (good_lines q limit r ≡ fine tt → good_lines q limit (r ++ (l ∷ [])) ≡ fine tt)
    → (o >>= λ _. good_lines q limit r) ≡ fine tt → (o >>= λ _. good_lines q limit (r ++ (l ∷ []))) ≡ fine tt
good-step (refused why) q limit r l ih h = absurd (refused-fine why tt h)
good-step (fine a) q limit r l ih h = ih h

pub good_more : (p limit : ℕ) (r : Record) (l : Line) → ((q : ℕ) → good_lines q limit (l ∷ []) ≡ fine tt) → good_lines p limit r ≡ fine tt
    → good_lines p limit (r ++ (l ∷ [])) ≡ fine tt
unfolding good_lines
good_more p limit [] l g h = g p
good_more p limit (m ∷ r) l g h = good-step (good_line p limit m) (p + size_of m) limit r l (λ k. good_more (p + size_of m) limit r l g k) h

-- good lines are not too long
pub none-longer : (p limit : ℕ) (r : Record) → good_lines p limit r ≡ fine tt → none_longer p limit r ≡ fine tt
unfolding good_lines none_longer good_line
none-longer p limit [] h = refl
none-longer p limit (m ∷ r) h =
    from-bind (good_line p limit m) (λ (c : Code). good_lines (p + size_of m) limit r) tt h (λ c first rest.
    rw (first_fine (not_longer p limit m) _ c first) (none-longer (p + size_of m) limit r rest))
