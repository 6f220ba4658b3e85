-- The fresh 99: its bytes are one line, and the reader accepts it after the records that it was written for. Assumes nothing.
use Prim.Native.Nat.{ℕ, suc, ◌+◌, ◌-◌, ◌^◌, ◌≤◌, ◌<◌}
use mathlib.Core.Path.{◌≡◌, refl, sym, ap, ◌∙◌}
use mathlib.Core.Logic.{⊎_elim}
use mathlib.Core.Bool.{Bool, true, not}
use mathlib.Core.List.{List, [], ◌∷◌, ◌++◌, append_assoc}
use native.Mathlib.Nat.{add-zero}
use native.Mathlib.Omega.{arith}
use lib.Dec.{T, leb, eqb, leb→le, le→leb}
use borrow.Author.Tests.{eq-eqb, ne_eqb, eqb-true}
use lib.ListN.{length, length-append}
use Rattle.rules.specs.Bytes.{Bytes, LF, CR, comma, slash, allowed, in_field, all, clean, same_bytes}
use Rattle.rules.specs.Outcome.{fine}
use Rattle.rules.specs.Lines.{lf, Line, lines_of, code_bytes, begins, code_in, code_of, file_trailer, continuation, records_of, file_records}
use Rattle.rules.specs.Cells.{at_comma, at_slash, cells_from, cells_of, leading_blanks}
use Rattle.rules.specs.Numbers.{Sum, is_digit, digits, equals, magnitudes, within_most, decimal, total_bytes}
use Rattle.rules.specs.Amounts.{amount_in, amount_adds}
use Rattle.rules.specs.Limits.{most}
use Rattle.rules.specs.Grammar.{total, count, records, judged, and_then, take_next, fields_of, is_signed}
use Rattle.rules.specs.Records.{Field, walk_after, taken, past_slash, taken_to, walk_cells, walk_lines, walk_record, the}
use Rattle.rules.specs.Totals.{Summary, no_summary, ◌⊞◌, amount_of, sum_of, adding, of_record, right_total, right_count, right_records, sum_within, balanced}
use Rattle.rules.specs.Order.{among}
use Rattle.rules.specs.Verdict.{State, not_longer, all_allowed, coded, good_line, good_lines, in_order, limit_after, own_lines, state_after, step}
use Rattle.rules.specs.Parts.{heads}
use Rattle.rules.specs.Combine.{fresh_trailer}
use Rattle.rules.proofs.Tests.{is_true, and_left, and_right, both}
use Rattle.rules.proofs.Binds.{check-true}
use Rattle.rules.proofs.LineLaws.{in_line, no_cr, lines-lf}
use Rattle.rules.proofs.CellLaws.{plain_byte, cells-comma, cells-slash}
use Rattle.rules.proofs.RunLaws.{within}
use Rattle.rules.proofs.Accepted.{step-again}
use Rattle.base_digits.proofs.DigitTests.{below-or-from}
use Rattle.base_digits.proofs.DigitStrings.{all_append, number-decimal, decimal-digits, decimal-at-most, decimal-fits}
use Rattle.base_digits.proofs.TotalStrings.{total-below-zero, total-from-zero, total-equals, total-signed}
use Rattle.laws.specs.LawWords.{between, only_lines}
use Rattle.laws.proofs.RecordsTaken.{bounded-room}

-- ---- the bytes of written numbers

all_more : (test other : ℕ → Bool) → ((b : ℕ) → T (test b) → T (other b)) → (bs : Bytes) → T (all test bs) → T (all other bs)
unfolding all
all_more test other w [] h = tt
all_more test other w (b ∷ bs) h = both (other b) (all other bs) (w b (and_left (test b) (all test bs) h)) (all_more test other w bs (and_right (test b) (all test bs) h))

all_two : (test : ℕ → Bool) (bs cs : Bytes) → T (all test bs) → T (all test cs) → T (all test (bs ++ cs))
all_two test bs cs h k = rw (all_append test bs cs) (both (all test bs) (all test cs) h k)

-- digits and a minus may stand in a field
digit-in : (b : ℕ) → T (is_digit b) → T (in_field b)
digit-in b h =
    let lo = leb→le 48 b (and_left (leb 48 b) (leb b 57) h) in
    let hi = leb→le b 57 (and_right (leb 48 b) (leb b 57) h) in
    both (allowed b) (plain_byte b)
    (both (leb 0x20 b) (leb b 0x7E) (le→leb 0x20 b (omega arith)) (le→leb b 0x7E (omega arith)))
    (both (not (eqb b comma)) (not (eqb b slash)) (rw (ne_eqb b comma (omega arith)) tt) (rw (ne_eqb b slash (omega arith)) tt))

decimal-in : (n : ℕ) → T (clean (decimal n))
decimal-in n = all_more is_digit in_field digit-in (decimal n) (rw (decimal-digits n) tt)

total-clean : (a : Sum) → T (clean (total_bytes a))
unfolding all
total-clean a =
    ⊎_elim
    (λ h. rw (total-below-zero a h) (decimal-in (a.minuses - a.pluses)))
    (λ h. rw (total-from-zero a h) (decimal-in (a.pluses - a.minuses)))
    (below-or-from a.pluses a.minuses)

digits-18 : (n : ℕ) → n ≤ most → length (decimal n) ≤ 18
digits-18 n h = decimal-at-most 18 n (omega arith) (omega arith)

total-short : (a : Sum) → magnitudes a ≤ most → length (total_bytes a) ≤ 19
total-short a m =
    ⊎_elim
    (λ h. rw (total-below-zero a h) (omega (arith, digits-18 (a.minuses - a.pluses) (omega arith))))
    (λ h. rw (total-from-zero a h) (omega (arith, digits-18 (a.pluses - a.minuses) (omega arith))))
    (below-or-from a.pluses a.minuses)

field-allowed : (bs : Bytes) → T (clean bs) → T (all allowed bs)
field-allowed = all_more in_field allowed (λ b. and_left (allowed b) (plain_byte b))

field_plain : (bs : Bytes) → T (clean bs) → T (all plain_byte bs)
field_plain = all_more in_field plain_byte (λ b. and_right (allowed b) (plain_byte b))

-- ---- the line

-- the line of a 99 with three fields, and what the walk reads of it
abbrev three_fields : Bytes → Bytes → Bytes → Bytes
three_fields v g n = code_bytes file_trailer ++ v ++ (comma ∷ g) ++ (comma ∷ n) ++ (slash ∷ [])

abbrev fields_read : Bytes → Bytes → Bytes → List Field
fields_read v g n =
    record { kind = total; place = 3; bytes = v }
    ∷ record { kind = count; place = suc (3 + length v); bytes = g }
    ∷ record { kind = records; place = suc (suc (3 + length v) + length g); bytes = n }
    ∷ []

module _ (v g n : Bytes) (cv : T (clean v)) (cg : T (clean g)) (cn : T (clean n)) where
  line-allowed : T (all allowed (three_fields v g n))
  unfolding all
  line-allowed =
      all_two allowed (code_bytes file_trailer ++ v ++ (comma ∷ g) ++ (comma ∷ n)) (slash ∷ [])
      (all_two allowed (code_bytes file_trailer ++ v ++ (comma ∷ g)) (comma ∷ n)
      (all_two allowed (code_bytes file_trailer ++ v) (comma ∷ g) (field-allowed v cv) (field-allowed g cg)) (field-allowed n cn)) tt

  three-cells : cells_from 3 (v ++ (comma ∷ g) ++ (comma ∷ n) ++ (slash ∷ []))
      ≡ record { place = 3; bytes = v; mark = at_comma; rest = v ++ (comma ∷ (g ++ (comma ∷ (n ++ (slash ∷ []))))) }
      ∷ record { place = suc (3 + length v); bytes = g; mark = at_comma; rest = g ++ (comma ∷ (n ++ (slash ∷ []))) }
      ∷ record { place = suc (suc (3 + length v) + length g); bytes = n; mark = at_slash []; rest = n ++ (slash ∷ []) }
      ∷ []
  three-cells =
      ap (cells_from 3) (simp append_assoc)
      ∙ cells-comma 3 v (g ++ (comma ∷ (n ++ (slash ∷ [])))) (field_plain v cv)
      ∙ rw (cells-comma (suc (3 + length v)) g (n ++ (slash ∷ [])) (field_plain g cg), cells-slash (suc (suc (3 + length v) + length g)) n [] (field_plain n cn))

  walk-three : is_signed v ≡ true → digits 1 9 g ≡ true → digits 1 9 n ≡ true
      → walk_record file_trailer (record { body = three_fields v g n; line_end = lf } ∷ []) ≡ fine (fields_read v g n)
  unfolding walk_record walk_lines walk_cells taken_to past_slash taken walk_after take_next and_then judged fields_of cells_of leading_blanks
  walk-three sv sg sn = rw (three-cells, sv, sg, sn)

-- allowed bytes end no line
allowed-in-line : (b : ℕ) → T (allowed b) → T (not (eqb b LF)) × T (not (eqb b CR))
allowed-in-line b h =
    let lo = leb→le 0x20 b (and_left (leb 0x20 b) (leb b 0x7E) h) in
    (rw (ne_eqb b LF (omega arith)) tt, rw (ne_eqb b CR (omega arith)) tt)

allowed-no-cr : (bs : Bytes) → T (all allowed bs) → T (no_cr bs)
unfolding all no_cr
allowed-no-cr [] h = tt
allowed-no-cr (b ∷ []) h = (allowed-in-line b (and_left (allowed b) true h)).1
allowed-no-cr (b ∷ c ∷ bs) h = allowed-no-cr (c ∷ bs) (and_right (allowed b) (all allowed (c ∷ bs)) h)

all-allowed : (p : ℕ) (bs : Bytes) → T (all allowed bs) → all_allowed p bs ≡ fine tt
unfolding all all_allowed
all-allowed p [] h = refl
all-allowed p (b ∷ bs) h = rw (check-true (allowed b) 4 p (and_left (allowed b) (all allowed bs) h)) (all-allowed (suc p) bs (and_right (allowed b) (all allowed bs) h))

equals-back : (a b : Sum) → equals b a ≡ true → equals a b ≡ true
equals-back a b e = let same = eqb-true (b.pluses + a.minuses) (a.pluses + b.minuses) e in eq-eqb (a.pluses + b.minuses) (b.pluses + a.minuses) (sym same)

-- ---- the fresh 99 is one line, a 99

abbrev pub trailer_line : Summary → Line
trailer_line s = record { body = three_fields (total_bytes s.sum) (decimal s.groups) (decimal (s.records + 1)); line_end = lf }

trailer-allowed : (s : Summary) → T (all allowed (trailer_line s).body)
trailer-allowed s =
    line-allowed (total_bytes s.sum) (decimal s.groups) (decimal (s.records + 1)) (total-clean s.sum) (decimal-in s.groups) (decimal-in (s.records + 1))

trailer-lines : (s : Summary) → lines_of (fresh_trailer s) ≡ trailer_line s ∷ []
unfolding fresh_trailer lines_of
trailer-lines s =
    let body = (trailer_line s).body in
    ap lines_of (sym (append_assoc (code_bytes file_trailer ++ total_bytes s.sum ++ (comma ∷ decimal s.groups) ++ (comma ∷ decimal (s.records + 1))) (slash ∷ []) (LF ∷ [])))
    ∙ lines-lf body [] (all_more allowed in_line (λ b h. (allowed-in-line b h).0) body (trailer-allowed s)) (allowed-no-cr body (trailer-allowed s))

pub trailer-record : (s : Summary) → file_records (fresh_trailer s) ≡ (trailer_line s ∷ []) ∷ []
unfolding file_records records_of
trailer-record s = rw trailer-lines

pub trailer-fresh : (s : Summary) → T (not (heads continuation (lines_of (fresh_trailer s))))
unfolding begins same_bytes
trailer-fresh s = rw trailer-lines tt

pub trailer-heads : (s : Summary) → T (heads file_trailer (trailer_line s ∷ []))
unfolding begins same_bytes
trailer-heads s = tt

-- ---- the reader accepts it

-- the state after the 99
abbrev pub after_trailer : ℕ → Summary → State
after_trailer limit file = record { expected = []; limit = limit; file = file; group = no_summary; account = no_summary }

module _ (limit : ℕ) (s : Summary) (roomy : 48 ≤ limit) (bounded : magnitudes s.sum ≤ most) (few-groups : s.groups < 10 ^ 9) (few-lines : s.records + 1 < 10 ^ 9) where
  abbrev read : List Field
  read = fields_read (total_bytes s.sum) (decimal s.groups) (decimal (s.records + 1))

  trailer-short : length (trailer_line s).body ≤ limit
  trailer-short =
      let v : length (total_bytes s.sum) ≤ 19 = total-short s.sum bounded in
      let g : length (decimal s.groups) ≤ 9 = decimal-at-most 9 s.groups (omega arith) few-groups in
      let n : length (decimal (s.records + 1)) ≤ 9 = decimal-at-most 9 (s.records + 1) (omega arith) few-lines in
      simp length-append (omega arith)

  trailer-good : good_lines 0 limit (trailer_line s ∷ []) ≡ fine tt
  unfolding good_lines good_line not_longer coded code_of code_in begins same_bytes
  trailer-good =
      rw (
        check-true (leb (length (trailer_line s).body) limit) 3 (0 + limit) (le→leb (length (trailer_line s).body) limit trailer-short),
        all-allowed 0 (trailer_line s).body (trailer-allowed s),
      )

  trailer-walked : walk_record file_trailer (trailer_line s ∷ []) ≡ fine read
  trailer-walked =
      walk-three (total_bytes s.sum) (decimal s.groups) (decimal (s.records + 1)) (total-clean s.sum) (decimal-in s.groups) (decimal-in (s.records + 1))
      (total-signed s.sum (is_true (within_most s.sum) (within s.sum bounded)))
      (decimal-fits 9 s.groups (omega arith) few-groups) (decimal-fits 9 (s.records + 1) (omega arith) few-lines)

  -- it adds one record, and nothing else
  trailer-adds : of_record file_trailer (trailer_line s ∷ []) read ≡ only_lines 1
  unfolding of_record adding sum_of amount_of same_bytes
  trailer-adds = refl

  trailer-balanced : (account group : Summary) → balanced file_trailer account group (s ⊞ only_lines 1) read ≡ fine tt
  unfolding balanced sum_within right_total right_count right_records the ◌⊞◌
  trailer-balanced account group =
      rw (
        add-zero s.sum.pluses,
        add-zero s.sum.minuses,
        add-zero s.groups,
        is_true (within_most s.sum) (within s.sum bounded),
        equals-back s.sum (amount_adds (amount_in (total_bytes s.sum))) (total-equals s.sum),
        number-decimal s.groups,
        eq-eqb s.groups s.groups refl,
        number-decimal (s.records + 1),
        eq-eqb (s.records + 1) (s.records + 1) refl,
      )

  pub trailer-step : step (between limit s) (trailer_line s ∷ []) ≡ fine (after_trailer limit (s ⊞ only_lines 1))
  unfolding in_order coded code_of code_in begins same_bytes among limit_after own_lines state_after sum_of amount_of
  trailer-step =
      step-again (between limit s) (trailer_line s ∷ []) (after_trailer limit (s ⊞ only_lines 1))
      (record {
        code = file_trailer;
        fields = read;
        good-lines = trailer-good;
        in_order = refl;
        walked = trailer-walked;
        own-lines = refl;
        bounded = bounded-room (magnitudes s.sum) read (omega arith);
        balances = rw trailer-adds (trailer-balanced (no_summary ⊞ only_lines 1) (no_summary ⊞ only_lines 1));
        next = rw trailer-adds;
      })
