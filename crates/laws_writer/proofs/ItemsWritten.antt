-- What the walk finds on the line of an account and of a further item. Assumes nothing.
use mathlib.Core.Path.{◌≡◌, refl, sym, ap, ◌∙◌}
use mathlib.Core.Bool.{Bool, true, false, not, false≢true}
use mathlib.Core.List.{List, [], ◌∷◌, ◌++◌}
use mathlib.Core.Option.{Option, none, some}
use Prim.Native.Nat.{ℕ, suc, ◌+◌, ◌≤◌}
use native.Mathlib.Omega.{arith}
use native.Mathlib.Nat.{add-zero, zero-add}
use lib.ListN.{length, drop}
use Rattle.rules.specs.Bytes.{Bytes, all, is_empty}
use Rattle.rules.specs.Outcome.{fine}
use Rattle.rules.specs.Numbers.{Signed, Sum, zero_sum, ◌⊕◌, digits}
use Rattle.rules.specs.Amounts.{amount_in, amount_adds}
use Rattle.rules.specs.TypeCodes.{Class, status, summary_only, summary_or_detail, non_monetary, unknown, type_class}
use Rattle.rules.specs.Lines.{account_header, continuation}
use Rattle.rules.specs.Grammar.{Kind, name, currency, first_type, further_type, status_amount, amount, item_count, funds, nothing, Judged, bad, good, fits, funds_of, judged, may_lack}
use Rattle.rules.specs.Grammar.{fields_of, item_of}
use Rattle.rules.specs.Totals.{amount_of, sum_of}
use Rattle.rules.specs.Writer.{Item, write_account, write_item, Writer, given, amount_bytes, item_count_bytes, sum_given, item_fields, wants_item, kinds_after}
use Rattle.rules.proofs.Tests.{Known, holds, fails, known}
use Rattle.base_digits.proofs.ReadingLaws.{digits-at-most}
use Rattle.laws_writer.specs.SessionWords.{Value, filled, said, all_said, word, amount_given, items_given, item_given, gives}
use Rattle.laws_writer.specs.SessionWords as words
use Rattle.laws_writer.proofs.NumberFields.{amount-reads, amount-said, count-said, no-amount, no-count}
use Rattle.laws_writer.proofs.FieldsWritten.{bad-good, from_field, none_left, Takes, one, all-taken, in-front}
use Rattle.laws_writer.proofs.WalkWritten.{zipped}
use Rattle.laws_writer.proofs.Found.{Found, slash_line, found-slash}

abbrev item_rest : Option Signed → Option ℕ → List Bytes
item_rest a n = amount_bytes a ∷ item_count_bytes n ∷ [] ∷ []

abbrev rest_given : Option Signed → Option ℕ → List Value
rest_given a n = amount_given a ∷ items_given n ∷ words.nothing ∷ []

-- an item's amount, count and funds, taken as the kinds that its type adds
record ItemFound (new : List Kind) (a : Option Signed) (n : Option ℕ) (left : List Kind) : Type 0 where
  pub used : List Kind
  pub takes : Takes (new ++ []) (item_rest a n) used left
  pub may : may_lack left ≡ true
  pub rest : drop 3 new ≡ left
  pub only : wants_item left ≡ true → left ≡ further_type ∷ []
  pub back : (p : ℕ) → all_said (zipped p used (item_rest a n)) ≡ rest_given a n
  pub sum : (p : ℕ) → sum_of (zipped p used (item_rest a n)) ≡ sum_given a

sum_zeros : (a : Option Signed) → amount_adds (amount_in (amount_bytes a)) ⊕ (zero_sum ⊕ (zero_sum ⊕ zero_sum)) ≡ sum_given a
sum_zeros a = rw (amount-reads a) (simp add-zero)

-- where `nothing` is wanted, the field is empty
pub nothing-empty : (f : Bytes) (ks : List Kind) (fs : List Bytes) (left : List Kind) → kinds_after (nothing ∷ ks) (f ∷ fs) ≡ fine left → is_empty f ≡ true
unfolding judged
nothing-empty f ks fs left h = from_field nothing f ks fs left h (λ new c j q. by-test (is_empty f) new j)
  where
    by-test : (t : Bool) (new : List Kind) → fits t ≡ good new → t ≡ true
    by-test true new j = refl
    by-test false new j = bad-good 8 new j

-- funds stay empty
pub funds-empty : (ks : List Kind) (fs : List Bytes) (left : List Kind) → kinds_after (funds ∷ ks) ([] ∷ fs) ≡ fine left → kinds_after ks fs ≡ fine left
unfolding judged funds_of is_empty
funds-empty ks fs left h = from_field funds [] ks fs left h (λ new c j q. let z : [] ≡ new = cc in rw (← z) at q)

module _ (a : Option Signed) (n : Option ℕ) (left : List Kind) where
  status-item : kinds_after (status_amount ∷ nothing ∷ nothing ∷ further_type ∷ []) (item_rest a n) ≡ fine left → ItemFound (status_amount ∷ nothing ∷ nothing ∷ further_type ∷ []) a n left
  unfolding zipped sum_of amount_of all_said said is_empty
  status-item h =
      let s = in-front (status_amount ∷ []) (nothing ∷ nothing ∷ further_type ∷ []) (amount_bytes a ∷ []) (item_count_bytes n ∷ [] ∷ []) left refl refl h in
      let t = in-front (status_amount ∷ nothing ∷ nothing ∷ []) (further_type ∷ []) (item_rest a n) [] left refl refl h in
      let e = none_left (further_type ∷ []) left t.0 in
      let z = no-count n (nothing-empty (item_count_bytes n) (nothing ∷ further_type ∷ []) ([] ∷ []) left s.0) in
      record {
        used = status_amount ∷ nothing ∷ nothing ∷ [];
        takes = t.1 [] (all-taken (further_type ∷ []) left t.0);
        may = rw (← e);
        rest = e;
        only = λ q. sym e;
        back = λ p. rw (amount-said status_amount p a refl, z);
        sum = λ p. sum_zeros a;
      }

  summary-item : kinds_after (amount ∷ item_count ∷ funds ∷ further_type ∷ []) (item_rest a n) ≡ fine left → ItemFound (amount ∷ item_count ∷ funds ∷ further_type ∷ []) a n left
  unfolding zipped sum_of amount_of all_said said all judged funds_of is_empty
  summary-item h =
      let t = in-front (amount ∷ item_count ∷ []) (funds ∷ further_type ∷ []) (amount_bytes a ∷ item_count_bytes n ∷ []) ([] ∷ []) left refl refl h in
      let u = funds-empty (further_type ∷ []) [] left t.0 in
      let e = none_left (further_type ∷ []) left u in
      record {
        used = amount ∷ item_count ∷ funds ∷ [];
        takes = t.1 (funds ∷ []) (one refl (omega arith) refl refl refl (all-taken (further_type ∷ []) left u));
        may = rw (← e);
        rest = e;
        only = λ q. sym e;
        back = λ p. rw (amount-said amount p a refl, count-said item_count (suc (p + length (amount_bytes a))) n refl refl);
        sum = λ p. sum_zeros a;
      }

  -- no item: all its fields are empty
  no_item : kinds_after (nothing ∷ nothing ∷ nothing ∷ []) (item_rest a n) ≡ fine left → ItemFound (nothing ∷ nothing ∷ nothing ∷ []) a n left
  unfolding zipped sum_of amount_of all_said said is_empty
  no_item h =
      let s = in-front (nothing ∷ []) (nothing ∷ nothing ∷ []) (amount_bytes a ∷ []) (item_count_bytes n ∷ [] ∷ []) left refl refl h in
      let t = in-front (nothing ∷ nothing ∷ nothing ∷ []) [] (item_rest a n) [] left refl refl h in
      let e = none_left [] left t.0 in
      let x = no-amount a (nothing-empty (amount_bytes a) (nothing ∷ nothing ∷ []) (item_count_bytes n ∷ [] ∷ []) left h) in
      let y = no-count n (nothing-empty (item_count_bytes n) (nothing ∷ []) ([] ∷ []) left s.0) in
      record {
        used = nothing ∷ nothing ∷ nothing ∷ [];
        takes = t.1 [] (all-taken [] left t.0);
        may = rw (← e);
        rest = e;
        only = λ q. absurd (false≢true (ap wants_item e ∙ q));
        back = λ p. rw (x, y);
        sum = λ p. rw x;
      }

  -- by the class of its type
  item-found : (c : Class) (new : List Kind) → item_of c ≡ good new → kinds_after (new ++ []) (item_rest a n) ≡ fine left → ItemFound new a n left
  item-found status new j h = let z : (status_amount ∷ nothing ∷ nothing ∷ further_type ∷ []) ≡ new = cc in rw (← z) (status-item (rw (← z) at h))
  item-found summary_only new j h = let z : (amount ∷ item_count ∷ funds ∷ further_type ∷ []) ≡ new = cc in rw (← z) (summary-item (rw (← z) at h))
  item-found summary_or_detail new j h = let z : (amount ∷ item_count ∷ funds ∷ further_type ∷ []) ≡ new = cc in rw (← z) (summary-item (rw (← z) at h))
  item-found non_monetary new j h = bad-good 8 new j
  item-found unknown new j h = bad-good 8 new j

-- a good type is short
pub type-short : (y : Bytes) (P : Class → Judged) → P unknown ≡ bad 8 → (new : List Kind) → P (type_class y) ≡ good new → length y ≤ 76
unfolding type_class
type-short y P u new h = by-test (known (digits 3 3 y))
  where
    by-test : Known (digits 3 3 y) → length y ≤ 76
    by-test (holds e) = omega (arith, digits-at-most 3 3 y e)
    by-test (fails e) = bad-good 8 new (sym u ∙ rw e at h)

pub sum-front : (s t : Sum) → s ≡ t → zero_sum ⊕ s ≡ t
sum-front s t e = rw (e, zero-add t.pluses, zero-add t.minuses)

-- a further item may come after an item
item-wants : (c : Class) (new : List Kind) → item_of c ≡ good new → wants_item (drop 3 new) ≡ true
item-wants status new j = let z : (status_amount ∷ nothing ∷ nothing ∷ further_type ∷ []) ≡ new = cc in rw (← z)
item-wants summary_only new j = let z : (amount ∷ item_count ∷ funds ∷ further_type ∷ []) ≡ new = cc in rw (← z)
item-wants summary_or_detail new j = let z : (amount ∷ item_count ∷ funds ∷ further_type ∷ []) ≡ new = cc in rw (← z)
item-wants non_monetary new j = bad-good 8 new j
item-wants unknown new j = bad-good 8 new j

pub further-wants : (i : Item) (left : List Kind) → kinds_after (further_type ∷ []) (item_fields i) ≡ fine left → wants_item left ≡ true
unfolding judged
further-wants i left h =
    from_field further_type i.type [] (item_rest i.amount i.item_count) left h (λ new c j q.
    rw (← (item-found i.amount i.item_count left (type_class i.type) new j q).rest) (item-wants (type_class i.type) new j))

-- a further item
pub further-found : (w : Writer) (i : Item) (left : List Kind) → kinds_after (further_type ∷ []) (item_fields i) ≡ fine left → Found (given w (write_item i)) (gives w (write_item i)) left
unfolding given gives judged zipped sum_of amount_of all_said said filled
further-found w i left h =
    from_field further_type i.type [] (item_rest i.amount i.item_count) left h (λ new c j q.
    let x = item-found i.amount i.item_count left (type_class i.type) new j q in
    let at : ℕ → ℕ = λ p. suc (p + length i.type) in
    found-slash continuation (further_type ∷ []) (further_type ∷ x.used) left left i.type (item_rest i.amount i.item_count) i.amount (item_given i)
    (one c (type-short i.type item_of refl new j) refl j refl x.takes) (omega arith) x.may
    (λ p. rw (x.back (at p)))
    (λ p. sum-front (sum_of (zipped (at p) x.used (item_rest i.amount i.item_count))) (sum_given i.amount) (x.sum (at p)))
    refl (λ e. (x.only e, refl)))

-- an account's first type: none, or an item's
first-item : (y : Bytes) (a : Option Signed) (n : Option ℕ) (left new : List Kind) → judged first_type y ≡ good new
    → kinds_after (new ++ []) (item_rest a n) ≡ fine left → ItemFound new a n left × (length y ≤ 76)
unfolding judged is_empty
first-item [] a n left new j h = let z : (nothing ∷ nothing ∷ nothing ∷ []) ≡ new = cc in (rw (← z) (no_item a n left (rw (← z) at h)), omega arith)
first-item (b ∷ bs) a n left new j h = (item-found a n left (type_class (b ∷ bs)) new j h, type-short (b ∷ bs) item_of refl new j)

account-line : (m u : Bytes) (i : Item) (left : List Kind) → kinds_after (fields_of account_header) (m ∷ u ∷ item_fields i) ≡ fine left
    → Found (slash_line account_header (fields_of account_header) (m ∷ u ∷ item_fields i) i.amount) (word m ∷ word u ∷ item_given i) left
unfolding fields_of zipped sum_of amount_of all_said said filled
account-line m u i left h =
    let rest = item_rest i.amount i.item_count in
    let t = in-front (name ∷ currency ∷ []) (first_type ∷ []) (m ∷ u ∷ []) (item_fields i) left refl refl h in
    from_field first_type i.type [] rest left t.0 (λ new c j q.
    let y = first-item i.type i.amount i.item_count left new j q in
    let x = y.0 in
    let at : ℕ → ℕ = λ p. suc (suc (suc (p + length m) + length u) + length i.type) in
    found-slash account_header (fields_of account_header) (name ∷ currency ∷ first_type ∷ x.used) left left m (u ∷ item_fields i) i.amount (word m ∷ word u ∷ item_given i)
    (t.1 (first_type ∷ x.used) (one c y.1 refl j refl x.takes)) (omega arith) x.may
    (λ p. rw (x.back (at p)))
    (λ p.
    let s = sum_of (zipped (at p) x.used rest) in
    sum-front (zero_sum ⊕ (zero_sum ⊕ s)) (sum_given i.amount) (sum-front (zero_sum ⊕ s) (sum_given i.amount) (sum-front s (sum_given i.amount) (x.sum (at p)))))
    refl (λ e. (x.only e, refl)))

pub account-found : (w : Writer) (m u : Bytes) (i : Option Item) (left : List Kind) → kinds_after (fields_of account_header) (given w (write_account m u i)).fields ≡ fine left
    → Found (given w (write_account m u i)) (gives w (write_account m u i)) left
unfolding given gives is_empty
account-found w m u none left h = account-line m u (record { type = []; amount = none; item_count = none }) left h
account-found w m u (some i) left h = account-line m u i left h

-- a further item may come after an account with an item
first-wants : (y : Bytes) (new : List Kind) → judged first_type y ≡ good new → wants_item (drop 3 new) ≡ not (is_empty y)
unfolding judged is_empty
first-wants [] new j = let z : (nothing ∷ nothing ∷ nothing ∷ []) ≡ new = cc in rw (← z)
first-wants (b ∷ bs) new j = item-wants (type_class (b ∷ bs)) new j

pub account-wants : (m u : Bytes) (i : Item) (left : List Kind) → kinds_after (fields_of account_header) (m ∷ u ∷ item_fields i) ≡ fine left → wants_item left ≡ not (is_empty i.type)
unfolding fields_of
account-wants m u i left h =
    let t = in-front (name ∷ currency ∷ []) (first_type ∷ []) (m ∷ u ∷ []) (item_fields i) left refl refl h in
    from_field first_type i.type [] (item_rest i.amount i.item_count) left t.0 (λ new c j q.
    rw (← (first-item i.type i.amount i.item_count left new j q).0.rest) (first-wants i.type new j))
