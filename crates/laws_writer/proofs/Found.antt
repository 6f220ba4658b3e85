-- What the walk finds on the line of each call. Assumes nothing.
use mathlib.Core.Path.{◌≡◌, refl, sym, ap}
use mathlib.Core.Bool.{Bool, true, false, false≢true}
use mathlib.Core.List.{List, [], ◌∷◌, ◌++◌, append-nil}
use mathlib.Core.Option.{Option, none, some}
use Prim.Native.Nat.{ℕ, suc, ◌+◌, ◌≤◌}
use native.Mathlib.Omega.{arith}
use native.Mathlib.Nat.{zero-add, add_assoc}
use lib.ListN.{length, length-append}
use Rattle.rules.specs.Bytes.{Bytes, all, allowed, is_empty, slash}
use Rattle.rules.specs.Outcome.{fine}
use Rattle.rules.specs.Numbers.{Signed, zero_sum, ◌⊕◌, decimal, total_bytes}
use Rattle.rules.specs.Lines.{Code, file_header, group_header, account_header, detail, account_trailer, group_trailer, file_trailer, continuation}
use Rattle.rules.specs.Cells.{cells_from}
use Rattle.rules.specs.Grammar.{Kind, further_type, amount, text, total, count, records, may_lack, fields_of}
use Rattle.rules.specs.Records.{Field, walk_cells, the}
use Rattle.rules.specs.Verdict.{limit_given}
use Rattle.rules.specs.Totals.{Summary, amount_of, sum_of}
use Rattle.rules.specs.Writer.{write_header, write_group, end_account, Writer, Given, given, sum_given, trailer_fields, wants_item, kinds_after, with_commas, line_rest}
use Rattle.laws_writer.specs.SessionWords.{Value, filled, said, all_said, trailer_given, gives}
use Rattle.laws_writer.proofs.NumberFields.{total-said, number-said}
use Rattle.laws_writer.proofs.FieldsWritten.{Takes, simples, takes_all}
use Rattle.laws_writer.proofs.LinesWritten.{all_both}
use Rattle.laws_writer.proofs.WalkWritten.{zipped, end_of, walk_at, walk-slash, fields-allowed, fields-short}

-- ---- a line

-- the line without its code
abbrev pub rest_of : Given → Bytes
rest_of g = with_commas g.fields ++ line_rest g.text

abbrev pub text_kinds : Option Bytes → List Kind
text_kinds none = []
text_kinds (some t) = text ∷ []

-- lines that can hold items
abbrev pub holds_items : Code → Bool
holds_items file_header = false
holds_items group_header = false
holds_items account_header = true
holds_items detail = false
holds_items account_trailer = false
holds_items group_trailer = false
holds_items file_trailer = false
holds_items continuation = true

-- what the walk finds from place p on, and what it says; `left` was wanted after the fields that were given
pub record Found (g : Given) (values : List Value) (left : List Kind) : Type 0 where
  pub wanted : List Kind
  pub fields : ℕ → List Field
  pub slash : ℕ → ℕ → ℕ
  pub clear : all allowed (rest_of g) ≡ true
  pub short : length (rest_of g) ≤ 4000
  pub walked : (p : ℕ) (acc : List Field) (q : ℕ) → walk_cells (walk_at (g.kinds ++ text_kinds g.text) acc q) (cells_from p (rest_of g)) ≡ fine (walk_at wanted (acc ++ fields p) (slash p q))
  pub may : may_lack wanted ≡ true
  pub back : (p : ℕ) → all_said (fields p) ≡ values
  pub sum : (p : ℕ) → sum_of (fields p) ≡ sum_given g.amount
  pub items : wants_item left ≡ wants_item wanted
  pub item : wants_item wanted ≡ true → (wanted ≡ further_type ∷ []) × (holds_items g.code ≡ true)

-- ---- fields after others

pub sum-append : (fs gs : List Field) → sum_of (fs ++ gs) ≡ sum_of fs ⊕ sum_of gs
unfolding sum_of
sum-append [] gs = rw (zero-add (sum_of gs).pluses, zero-add (sum_of gs).minuses)
sum-append (f ∷ fs) gs = rw (sum-append fs gs) (simp add_assoc)

pub said-append : (fs gs : List Field) → all_said (fs ++ gs) ≡ all_said fs ++ all_said gs
unfolding all_said
said-append [] gs = refl
said-append (f ∷ fs) gs = rw (said-append fs gs)

-- ---- a line that a slash ends

abbrev pub slash_line : Code → List Kind → List Bytes → Option Signed → Given
slash_line c ks fs a = record { code = c; kinds = ks; fields = fs; text = none; amount = a }

module _ (c : Code) (ks used left wanted : List Kind) (f : Bytes) (fs : List Bytes) (a : Option Signed) (values : List Value)
    (t : Takes ks (f ∷ fs) used wanted) (few : length (f ∷ fs) ≤ 8) where
  pub found-slash : may_lack wanted ≡ true → ((p : ℕ) → all_said (zipped p used (f ∷ fs)) ≡ values) → ((p : ℕ) → sum_of (zipped p used (f ∷ fs)) ≡ sum_given a)
      → wants_item left ≡ wants_item wanted → (wants_item wanted ≡ true → (wanted ≡ further_type ∷ []) × (holds_items c ≡ true))
      → Found (slash_line c ks (f ∷ fs) a) values left
  unfolding all
  found-slash may back sum items item =
      record {
        wanted = wanted;
        fields = λ p. zipped p used (f ∷ fs);
        slash = λ p q. end_of p (f ∷ fs);
        clear = all_both allowed (with_commas (f ∷ fs)) (slash ∷ []) (fields-allowed t) refl;
        short = rw (length-append (with_commas (f ∷ fs)) (slash ∷ [])) (omega (arith, fields-short t));
        walked = λ p acc q. rw append-nil (walk-slash p acc q t);
        may = may;
        back = back;
        sum = sum;
        items = items;
        item = item;
      }

-- all fields of simple kinds: header, group and the trailers
found_plain : (c : Code) (ks left : List Kind) (f : Bytes) (fs : List Bytes) (values : List Value) → kinds_after ks (f ∷ fs) ≡ fine left
    → simples ks ≡ true → length ks ≡ length (f ∷ fs) → length (f ∷ fs) ≤ 8
    → ((p : ℕ) → all_said (zipped p ks (f ∷ fs)) ≡ values) → ((p : ℕ) → sum_of (zipped p ks (f ∷ fs)) ≡ zero_sum)
    → Found (slash_line c ks (f ∷ fs) none) values left
found_plain c ks left f fs values h s n few back sum =
    let t = takes_all ks (f ∷ fs) left s n h in
    found-slash c ks ks left [] f fs none values t.1 few refl back sum (ap wants_item (sym t.0)) (λ e. absurd (false≢true e))

module _ (w : Writer) (left : List Kind) where
  pub header-found : (s r d t n : Bytes) → kinds_after (fields_of file_header) (s ∷ r ∷ d ∷ t ∷ n ∷ [] ∷ [] ∷ (50 ∷ []) ∷ []) ≡ fine left
      → Found (given w (write_header s r d t n)) (gives w (write_header s r d t n)) left
  unfolding given fields_of zipped sum_of amount_of gives all_said said filled is_empty
  header-found s r d t n h =
      found_plain file_header (fields_of file_header) left s (r ∷ d ∷ t ∷ n ∷ [] ∷ [] ∷ (50 ∷ []) ∷ []) (gives w (write_header s r d t n)) h refl refl (omega arith) (λ p. refl) (λ p. refl)

  -- L stays empty
  pub header-limit : (limit : ℕ) (s r d t n : Bytes) (h : kinds_after (fields_of file_header) (s ∷ r ∷ d ∷ t ∷ n ∷ [] ∷ [] ∷ (50 ∷ []) ∷ []) ≡ fine left)
      → limit_given limit ((header-found s r d t n h).fields 3) ≡ limit
  unfolding header-found found_plain found-slash fields_of zipped limit_given the is_empty
  header-limit limit s r d t n h = refl

  pub group-found : (u o s d t c m : Bytes) → kinds_after (fields_of group_header) (u ∷ o ∷ s ∷ d ∷ t ∷ c ∷ m ∷ []) ≡ fine left
      → Found (given w (write_group u o s d t c m)) (gives w (write_group u o s d t c m)) left
  unfolding given fields_of zipped sum_of amount_of gives all_said said filled
  group-found u o s d t c m h =
      found_plain group_header (fields_of group_header) left u (o ∷ s ∷ d ∷ t ∷ c ∷ m ∷ []) (gives w (write_group u o s d t c m)) h refl refl (omega arith) (λ p. refl) (λ p. refl)

  pub account-end-found : kinds_after (fields_of account_trailer) (total_bytes w.account.sum ∷ decimal (w.account.records + 1) ∷ []) ≡ fine left
      → Found (given w end_account) (gives w end_account) left
  unfolding given fields_of zipped sum_of amount_of gives all_said
  account-end-found h =
      found_plain account_trailer (fields_of account_trailer) left (total_bytes w.account.sum) (decimal (w.account.records + 1) ∷ []) (gives w end_account) h refl refl (omega arith)
      (λ p. rw (total-said total p w.account.sum refl, number-said records (suc (p + length (total_bytes w.account.sum))) (w.account.records + 1) refl refl)) (λ p. refl)

  pub account-end-fields : (h : kinds_after (fields_of account_trailer) (total_bytes w.account.sum ∷ decimal (w.account.records + 1) ∷ []) ≡ fine left)
      → (account-end-found h).fields 3 ≡ zipped 3 (total ∷ records ∷ []) (total_bytes w.account.sum ∷ decimal (w.account.records + 1) ∷ [])
  unfolding account-end-found found_plain found-slash fields_of
  account-end-fields h = refl

trailer-said : (s : Summary) (n p : ℕ) → all_said (zipped p (total ∷ count ∷ records ∷ []) (trailer_fields s n)) ≡ trailer_given s n
unfolding zipped all_said
trailer-said s n p =
    let q = suc (p + length (total_bytes s.sum)) in
    rw (total-said total p s.sum refl, number-said count q n refl refl, number-said records (suc (q + length (decimal n))) (s.records + 1) refl refl)

-- the line that ends a group or the file: of this summary, with this count
module _ (c : Code) (s : Summary) (n : ℕ) (left : List Kind) (h : kinds_after (total ∷ count ∷ records ∷ []) (trailer_fields s n) ≡ fine left) where
  pub trailer-found : Found (slash_line c (total ∷ count ∷ records ∷ []) (trailer_fields s n) none) (trailer_given s n) left
  unfolding zipped sum_of amount_of
  trailer-found =
      found_plain c (total ∷ count ∷ records ∷ []) left (total_bytes s.sum) (decimal n ∷ decimal (s.records + 1) ∷ []) (trailer_given s n) h refl refl (omega arith)
      (trailer-said s n) (λ p. refl)

  pub trailer-fields : trailer-found.fields 3 ≡ zipped 3 (total ∷ count ∷ records ∷ []) (trailer_fields s n)
  unfolding trailer-found found_plain found-slash
  trailer-fields = refl
