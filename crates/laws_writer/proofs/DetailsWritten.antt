-- What the walk finds on the line of a detail, its text included. Assumes nothing.
use mathlib.Core.Path.{◌≡◌, refl, sym, ap, ◌∙◌}
use mathlib.Core.Bool.{true, false, cond, not, false≢true}
use mathlib.Core.List.{List, [], ◌∷◌, ◌++◌, append_assoc, append-nil}
use mathlib.Core.Option.{Option}
use Prim.Native.Nat.{ℕ, suc, ◌+◌, ◌≤◌}
use native.Mathlib.Omega.{arith}
use native.Mathlib.Nat.{add-zero}
use lib.Dec.{leb, eqb}
use lib.ListN.{length, length-append}
use borrow.Author.Tests.{leb-true, eqb-false, not-true}
use Rattle.rules.specs.Bytes.{Bytes, all, allowed, is_empty, slash, comma, trimmed, trimmed_before, between, starts_with, one_of, just}
use Rattle.rules.specs.Outcome.{fine}
use Rattle.rules.specs.Numbers.{Signed}
use Rattle.rules.specs.TypeCodes.{Class, status, summary_only, summary_or_detail, non_monetary, unknown, type_class}
use Rattle.rules.specs.Cells.{Cell, at_comma, at_slash, at_line_end, lengthened, cells_from}
use Rattle.rules.specs.Grammar.{Kind, reference, amount, funds, detail_type, text, further_text, nothing, good, funds_of, judged, and_then, take_next, may_lack, detail_of, piece_of}
use Rattle.rules.specs.Records.{Field, walk_after, taken, walk_cells}
use Rattle.rules.specs.Totals.{amount_of, sum_of}
use Rattle.rules.specs.Writer.{write_detail, Writer, given, amount_bytes, sum_given, wants_item, kinds_after, with_commas, good_text}
use Rattle.rules.proofs.Tests.{Known, holds, fails, known, same-eq}
use Rattle.base_digits.proofs.DigitTests.{and_left, and_right, at_least, at_most}
use Rattle.laws_writer.specs.SessionWords.{Value, bytes, filled, said, all_said, word, amount_given, gives}
use Rattle.laws_writer.specs.SessionWords as words
use Rattle.laws_writer.proofs.NumberFields.{amount-reads, amount-said, no-amount}
use Rattle.laws_writer.proofs.FieldsWritten.{bad-good, from_field, Takes, one, in-front, takes_all}
use Rattle.laws_writer.proofs.LinesWritten.{all_both}
use Rattle.laws_writer.proofs.WalkWritten.{zipped, end_of, walk_at, walk-comma, fields-allowed, fields-short}
use Rattle.laws_writer.proofs.Found.{Found, sum-append, said-append}
use Rattle.laws_writer.proofs.ItemsWritten.{nothing-empty, funds-empty, type-short, sum-front}

-- ---- the fields after its type

abbrev pub detail_rest : Option Signed → Bytes → Bytes → List Bytes
detail_rest a b c = amount_bytes a ∷ [] ∷ b ∷ c ∷ []

abbrev detail_given : Option Signed → Bytes → Bytes → List Value
detail_given a b c = amount_given a ∷ words.nothing ∷ word b ∷ word c ∷ []

-- the fields after its type
record DetailFound (new : List Kind) (a : Option Signed) (b c : Bytes) (left : List Kind) : Type 0 where
  pub used : List Kind
  pub takes : Takes (new ++ (reference ∷ reference ∷ [])) (detail_rest a b c) used []
  pub none-left-over : [] ≡ left
  pub back : (p : ℕ) → all_said (zipped p used (detail_rest a b c)) ≡ detail_given a b c
  pub sum : (p : ℕ) → sum_of (zipped p used (detail_rest a b c)) ≡ sum_given a

module _ (a : Option Signed) (b c : Bytes) (left : List Kind) where
  paid-detail : kinds_after (amount ∷ funds ∷ reference ∷ reference ∷ []) (detail_rest a b c) ≡ fine left → DetailFound (amount ∷ funds ∷ []) a b c left
  unfolding zipped sum_of amount_of all_said said filled all judged funds_of is_empty
  paid-detail h =
      let t = in-front (amount ∷ []) (funds ∷ reference ∷ reference ∷ []) (amount_bytes a ∷ []) ([] ∷ b ∷ c ∷ []) left refl refl h in
      let u = takes_all (reference ∷ reference ∷ []) (b ∷ c ∷ []) left refl refl (funds-empty (reference ∷ reference ∷ []) (b ∷ c ∷ []) left t.0) in
      let v = in-front (amount ∷ []) (funds ∷ reference ∷ reference ∷ []) (amount_bytes a ∷ []) ([] ∷ b ∷ c ∷ []) [] refl refl (h ∙ ap fine (sym u.0)) in
      record {
        used = amount ∷ funds ∷ reference ∷ reference ∷ [];
        takes = v.1 (funds ∷ reference ∷ reference ∷ []) (one refl (omega arith) refl refl refl u.1);
        none-left-over = u.0;
        back = λ p. rw (amount-said amount p a refl);
        sum = λ p. rw (amount-reads a) (simp add-zero);
      }

  other-detail : kinds_after (nothing ∷ nothing ∷ reference ∷ reference ∷ []) (detail_rest a b c) ≡ fine left → DetailFound (nothing ∷ nothing ∷ []) a b c left
  unfolding zipped sum_of amount_of all_said said filled is_empty
  other-detail h =
      let u = takes_all (nothing ∷ nothing ∷ reference ∷ reference ∷ []) (detail_rest a b c) left refl refl h in
      let x = no-amount a (nothing-empty (amount_bytes a) (nothing ∷ reference ∷ reference ∷ []) ([] ∷ b ∷ c ∷ []) left h) in
      record {
        used = nothing ∷ nothing ∷ reference ∷ reference ∷ [];
        takes = u.1;
        none-left-over = u.0;
        back = λ p. rw x;
        sum = λ p. rw x;
      }

  detail-rest : (x : Class) (new : List Kind) → detail_of x ≡ good new → kinds_after (new ++ (reference ∷ reference ∷ [])) (detail_rest a b c) ≡ fine left → DetailFound new a b c left
  detail-rest summary_or_detail new j h = let z : (amount ∷ funds ∷ []) ≡ new = cc in rw (← z) (paid-detail (rw (← z) at h))
  detail-rest non_monetary new j h = let z : (nothing ∷ nothing ∷ []) ≡ new = cc in rw (← z) (other-detail (rw (← z) at h))
  detail-rest status new j h = bad-good 8 new j
  detail-rest summary_only new j h = bad-good 8 new j
  detail-rest unknown new j h = bad-good 8 new j

-- all kinds but the text are used up
pub detail-left : (y : Bytes) (a : Option Signed) (b c : Bytes) (left : List Kind) → kinds_after (detail_type ∷ reference ∷ reference ∷ []) (y ∷ detail_rest a b c) ≡ fine left → [] ≡ left
unfolding judged
detail-left y a b c left h =
    from_field detail_type y (reference ∷ reference ∷ []) (detail_rest a b c) left h (λ new z j q. (detail-rest a b c left (type_class y) new j q).none-left-over)

-- ---- the text at its place, and what may come after it

abbrev text_bytes : Bytes → Bytes
text_bytes t = cond (is_empty t) (slash ∷ []) t

abbrev text_left : Bytes → List Kind
text_left t = cond (is_empty t) [] (further_text ∷ [])

-- the first cell starts where the bytes start, and has them all in its rest
record First (p : ℕ) (bs : Bytes) (cells : List Cell) : Type 0 where
  pub cell : Cell
  pub others : List Cell
  pub is : cells ≡ cell ∷ others
  pub place : cell.place ≡ p
  pub rest : cell.rest ≡ bs

first_step : (p b : ℕ) (bs : Bytes) → First (suc p) bs (cells_from (suc p) bs) → Known (eqb b comma) → Known (eqb b slash) → First p (b ∷ bs) (cells_from p (b ∷ bs))
unfolding cells_from lengthened
first_step p b bs x (holds e) k =
    record { cell = record { place = p; bytes = []; mark = at_comma; rest = b ∷ bs }; others = cells_from (suc p) bs; is = rw e; place = refl; rest = refl }
first_step p b bs x (fails e) (holds f) =
    record { cell = record { place = p; bytes = []; mark = at_slash bs; rest = b ∷ bs }; others = []; is = rw (e, f); place = refl; rest = refl }
first_step p b bs x (fails e) (fails f) =
    record {
      cell = record { place = p; bytes = b ∷ x.cell.bytes; mark = x.cell.mark; rest = b ∷ x.cell.rest };
      others = x.others;
      is = rw (e, f, x.is);
      place = refl;
      rest = rw x.rest;
    }

first_cell : (p : ℕ) (bs : Bytes) → First p bs (cells_from p bs)
unfolding cells_from
first_cell p [] = record { cell = record { place = p; bytes = []; mark = at_line_end; rest = [] }; others = []; is = refl; place = refl; rest = refl }
first_cell p (b ∷ bs) = first_step p b bs (first_cell (suc p) bs) (known (eqb b comma)) (known (eqb b slash))

not-just : (b : ℕ) (bs : Bytes) → eqb b slash ≡ false → just slash (b ∷ bs) ≡ false
unfolding one_of
not-just b [] h = by-test (known (between slash slash b))
  where
    by-test : Known (between slash slash b) → between slash slash b ≡ false
    by-test (holds e) = absurd (eqb-false b slash h (omega (arith, at_least slash slash b e, at_most slash slash b e)))
    by-test (fails e) = e
not-just b (c ∷ bs) h = refl

-- what a good text is
record TextGood (t : Bytes) : Type 0 where
  pub clear : all allowed (text_bytes t) ≡ true
  pub short : length (text_bytes t) ≤ 76
  pub trims : trimmed (text_bytes t) ≡ text_bytes t
  pub judged : judged text (text_bytes t) ≡ good (text_left t)
  pub back : (p : ℕ) → said (record { kind = text; place = p; bytes = text_bytes t }) ≡ word t

text-good : (t : Bytes) → good_text t ≡ true → TextGood t
unfolding good_text judged piece_of trimmed trimmed_before all is_empty starts_with one_of said filled
text-good [] h = record { clear = refl; short = omega arith; trims = refl; judged = refl; back = λ p. refl }
text-good (b ∷ bs) h =
    let r1 = and_right (leb (length (b ∷ bs)) 76) _ h in
    let r2 = and_right (all allowed (b ∷ bs)) _ r1 in
    let n = not-true (eqb b slash) (and_left (not (starts_with slash (b ∷ bs))) _ r2) in
    record {
      clear = and_left (all allowed (b ∷ bs)) _ r1;
      short = leb-true (length (b ∷ bs)) 76 (and_left (leb (length (b ∷ bs)) 76) _ h);
      trims = sym (same-eq (b ∷ bs) (trimmed (b ∷ bs)) (rw (and_right (not (starts_with slash (b ∷ bs))) _ r2) tt));
      judged = rw (not-just b bs n, n);
      back = λ p. rw (not-just b bs n);
    }

module _ (t : Bytes) (x : TextGood t) where
  walk-text : (p : ℕ) (acc : List Field) (q : ℕ)
      → walk_cells (walk_at (text ∷ []) acc q) (cells_from p (text_bytes t)) ≡ fine (walk_at (text_left t) (acc ++ (record { kind = text; place = p; bytes = text_bytes t } ∷ [])) q)
  unfolding walk_cells taken take_next and_then walk_after
  walk-text p acc q =
      let f = first_cell p (text_bytes t) in
      rw (f.is, f.place, f.rest, x.trims, x.judged, append-nil (text_left t))

text-may : (t : Bytes) → may_lack (text_left t) ≡ true
unfolding is_empty
text-may [] = refl
text-may (b ∷ bs) = refl

text-none : (t : Bytes) → wants_item [] ≡ wants_item (text_left t)
unfolding is_empty
text-none [] = refl
text-none (b ∷ bs) = refl

sum-text : (fs : List Field) (p : ℕ) (t : Bytes) → sum_of (fs ++ (record { kind = text; place = p; bytes = t } ∷ [])) ≡ sum_of fs
unfolding sum_of amount_of
sum-text fs p t = rw (sum-append fs (record { kind = text; place = p; bytes = t } ∷ [])) (simp add-zero)

module _ (w : Writer) (y : Bytes) (a : Option Signed) (b c t : Bytes) (left : List Kind) where
  abbrev parts : List Bytes
  parts = y ∷ detail_rest a b c

  -- the fields, a comma, and the text
  text-line : TextGood t → (used : List Kind) → Takes (detail_type ∷ reference ∷ reference ∷ []) parts used [] → [] ≡ left
      → ((p : ℕ) → all_said (zipped p used parts) ≡ word y ∷ detail_given a b c) → ((p : ℕ) → sum_of (zipped p used parts) ≡ sum_given a)
      → Found (given w (write_detail y a b c t)) (gives w (write_detail y a b c t)) left
  unfolding all given gives all_said
  text-line x used takes e back sum =
      let at : ℕ → ℕ = λ p. suc (end_of p parts) in
      record {
        wanted = text_left t;
        fields = λ p. zipped p used parts ++ (record { kind = text; place = at p; bytes = text_bytes t } ∷ []);
        slash = λ p q. q;
        clear = all_both allowed (with_commas parts) (comma ∷ text_bytes t) (fields-allowed takes) (all_both allowed (comma ∷ []) (text_bytes t) refl x.clear);
        short = rw (length-append (with_commas parts) (comma ∷ text_bytes t)) (omega (arith, fields-short takes, x.short));
        walked = λ p acc q.
            walk-comma (text ∷ []) (text_bytes t) p acc q takes
            ∙ walk-text t x (at p) (acc ++ zipped p used parts) q
            ∙ rw (append_assoc acc (zipped p used parts) (record { kind = text; place = at p; bytes = text_bytes t } ∷ []));
        may = text-may t;
        back = λ p. rw (said-append (zipped p used parts), back p, x.back (at p));
        sum = λ p. sum-text (zipped p used parts) (at p) (text_bytes t) ∙ sum p;
        items = rw (← e) (text-none t);
        item = λ z. absurd (false≢true (text-none t ∙ z));
      }

  pub detail-found : good_text t ≡ true → kinds_after (detail_type ∷ reference ∷ reference ∷ []) parts ≡ fine left
      → Found (given w (write_detail y a b c t)) (gives w (write_detail y a b c t)) left
  unfolding judged zipped sum_of amount_of all_said said filled
  detail-found x h =
      from_field detail_type y (reference ∷ reference ∷ []) (detail_rest a b c) left h (λ new z j q.
      let d = detail-rest a b c left (type_class y) new j q in
      let at : ℕ → ℕ = λ p. suc (p + length y) in
      text-line (text-good t x) (detail_type ∷ d.used) (one z (type-short y detail_of refl new j) refl j refl d.takes) d.none-left-over
      (λ p. rw (d.back (at p)))
      (λ p. sum-front (sum_of (zipped (at p) d.used (detail_rest a b c))) (sum_given a) (d.sum (at p))))
