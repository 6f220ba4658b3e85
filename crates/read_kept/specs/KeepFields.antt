-- What is kept of a record's fields in place of them: the sum of its amounts, the first amount that passes the largest, what a trailer states, L.
-- It stands for what the rules read of the list of fields: `sum_of` and `bounded_from` (rules/specs/Totals.antt), the first total, count and record count, and `limit_given`
-- (rules/specs/Verdict.antt); joined by `kept_of` (proofs/KeepAllLaws.antt), whose words are in specs/KeptOfFields.antt. Assumes nothing.
use Rattle.std.specs.Prelude.{ℕ, ◌+◌, ◌≤◌, ◌≡◌, Bool, true, false, cond, not, ◌||◌, List, [], ◌∷◌, leb, Option, Some, None, IfSome}
use Rattle.std.specs.Option.{is_some}
use Rattle.rules.specs.Bytes.{Bytes, is_empty}
use Rattle.rules.specs.Numbers.{number, zero_sum, ◌⊕◌, magnitudes}
use Rattle.rules.specs.Amounts.{Amount, amount_in, magnitude_of, amount_adds}
use Rattle.rules.specs.Limits.{most}
use Rattle.rules.specs.Records.{Field}
use Rattle.base_quantities.specs.declared.Units.{Units}
use Rattle.base_quantities.specs.declared.Place.{Place}
use Rattle.base_quantities.specs.QuantityMeanings.{sum_meant, units_of}
use Rattle.base_digits.specs.NumbersRead.{value_of}
use Rattle.base_amounts.specs.AmountsRead.{amount_read, is_minus}
use Rattle.read_wanted.specs.Wants.{Purpose, for_amount, for_total, for_count, for_records, for_length, same_purpose, purpose}
use Rattle.read_kept.specs.declared.Kept.{Kept}

-- a byte's place
abbrev pub place : ℕ → Place
place p = record { 0 = p }

-- what is kept after a field: where the field is for this and none was seen before it, what it gives; else what was kept
abbrev pub first_of : {A : Type 0} → Bool → Bool → A → A → A
first_of true seen old new = cond seen old new
first_of false seen old new = old

-- ---- amounts

-- the sum, and where an amount passed the largest, if one did
pub record Amounts : Type 0 where
  pub sum : Units
  pub past : Option Place

-- what is kept of amounts, and with another such
abbrev pub amounts_of : Kept → Amounts
amounts_of k = record { sum = k.sum; past = k.past }

abbrev pub with_amounts : Kept → Amounts → Kept
with_amounts k x =
    record {
      before = k.before;
      sum = x.sum;
      past = x.past;
      total = k.total;
      total_seen = k.total_seen;
      total_negative = k.total_negative;
      count = k.count;
      count_seen = k.count_seen;
      records = k.records;
      records_seen = k.records_seen;
      length = k.length;
      length_seen = k.length_seen;
    }

-- with an amount at p, after magnitudes m: added, unless it or one before it passes the largest
unfoldable pub add_to : ℕ → Amounts → ℕ → Amount → Amounts
add_to m x p a =
    let next = sum_meant x.sum ⊕ amount_adds a in
    cond (is_some x.past) x
    (cond (leb (m + magnitudes next) most)
    (record { sum = units_of next; past = x.past })
    (record { sum = x.sum; past = Some (place p) }))

-- where the field is an amount
abbrev pub add_if : Bool → ℕ → Amounts → ℕ → Amount → Amounts
add_if true m x p a = add_to m x p a
add_if false m x p a = x

-- ---- all that is kept

-- before any field, with the magnitudes of the records before
abbrev pub nothing_kept : ℕ → Kept
nothing_kept m =
    record {
      before = record { 0 = m };
      sum = units_of zero_sum;
      past = None;
      total = record { at = place 0; value = record { 0 = 0 } };
      total_seen = false;
      total_negative = false;
      count = record { at = place 0; value = record { 0 = 0 } };
      count_seen = false;
      records = record { at = place 0; value = record { 0 = 0 } };
      records_seen = false;
      length = None;
      length_seen = false;
    }

-- with a field at p for this purpose, given or empty, that is the amount a and the number n: amounts and totals take the one, counts and L the other
unfoldable pub keep_with : Purpose → Kept → ℕ → Bool → Amount → ℕ → Kept
keep_with u k p g a n =
    let x = add_if (same_purpose for_amount u) k.before.0 (amounts_of k) p a in
    record {
      before = k.before;
      sum = x.sum;
      past = x.past;
      total = first_of (same_purpose for_total u) k.total_seen k.total (record { at = place p; value = record { 0 = magnitude_of a } });
      total_seen = same_purpose for_total u || k.total_seen;
      total_negative = first_of (same_purpose for_total u) k.total_seen k.total_negative (is_minus a);
      count = first_of (same_purpose for_count u) k.count_seen k.count (record { at = place p; value = record { 0 = n } });
      count_seen = same_purpose for_count u || k.count_seen;
      records = first_of (same_purpose for_records u) k.records_seen k.records (record { at = place p; value = record { 0 = n } });
      records_seen = same_purpose for_records u || k.records_seen;
      length = first_of (same_purpose for_length u) k.length_seen k.length (cond g (Some n) None);
      length_seen = same_purpose for_length u || k.length_seen;
    }

-- with an amount at p
abbrev pub added_to : Kept → ℕ → Amount → Kept
added_to k p a = with_amounts k (add_to k.before.0 (amounts_of k) p a)

-- a field's bytes as the code reads them; a field as the rules do; and one field after the other
unfoldable pub keep_read : Purpose → Kept → ℕ → Bytes → Kept
keep_read u k p bs = keep_with u k p (not (is_empty bs)) (amount_read bs) (value_of bs)

unfoldable pub keep_field : Kept → Field → Kept
keep_field k f = keep_with (purpose f.kind) k f.place (not (is_empty f.bytes)) (amount_in f.bytes) (number f.bytes)

unfoldable pub keep_all : Kept → List Field → Kept
keep_all k [] = k
keep_all k (f ∷ fs) = keep_all (keep_field k f) fs

-- ---- bounds for callers, after magnitudes m in a record of n bytes

-- the magnitudes m stand, the sum keeps below the largest, and places lie in the record
pub record Within (n m : ℕ) (k : Kept) : Type 0 where
  pub before : k.before.0 ≡ m
  pub sum : m ≤ most → m + magnitudes (sum_meant k.sum) ≤ most
  pub past : IfSome k.past (λ p. p.0 ≤ n)
  pub total : k.total.at.0 ≤ n
  pub count : k.count.at.0 ≤ n
  pub records : k.records.at.0 ≤ n
