-- What is kept, in the rules' terms: 10, the sum of the amounts, and the first total, count, record count and physical length. Assumes nothing.
use Rattle.std.specs.Prelude.{ℕ, ◌≡◌, cond, not, List, Option, Some, None}
use Rattle.rules.specs.Bytes.{is_empty}
use Rattle.rules.specs.Numbers.{Sum, number, as_sum}
use Rattle.rules.specs.Amounts.{amount_in, amount_adds}
use Rattle.rules.specs.Outcome.{Outcome, refuse, fine}
use Rattle.rules.specs.Grammar.{total, count, records, physical_length}
use Rattle.rules.specs.Records.{Field, the}
use Rattle.rules.specs.Totals.{sum_of, bounded_from}
use Rattle.base_quantities.specs.declared.Place.{Place}
use Rattle.base_quantities.specs.QuantityMeanings.{sum_meant}
use Rattle.read_kept.specs.declared.Kept.{Kept}

-- what is kept of a trailer's total: its place and its sum; of its count and its record count
abbrev pub kept_total : Kept → ℕ × Sum
kept_total k = (k.total.at.0, as_sum (record { negative = k.total_negative; magnitude = k.total.value.0 }))

abbrev pub kept_count : Kept → ℕ × ℕ
kept_count k = (k.count.at.0, k.count.value.0)

abbrev pub kept_records : Kept → ℕ × ℕ
kept_records k = (k.records.at.0, k.records.value.0)

-- what a field gives for them
abbrev pub total_of : Field → ℕ × Sum
total_of f = (f.place, amount_adds (amount_in f.bytes))

abbrev pub count_of : Field → ℕ × ℕ
count_of f = (f.place, number f.bytes)

abbrev pub length_of : Field → Option ℕ
length_of f = cond (not (is_empty f.bytes)) (Some (number f.bytes)) None

-- 10, at the first amount that passed the largest
abbrev pub over_at : Option Place → Outcome (Unit {0})
over_at None = fine tt
over_at (Some p) = refuse 10 p.0

abbrev pub over_of : Kept → Outcome (Unit {0})
over_of k = over_at k.past

-- kept of these fields, after records with magnitudes m
pub record KeptOf (m : ℕ) (fs : List Field) (k : Kept) : Type 0 where
  pub bound : bounded_from m fs ≡ over_of k
  pub sum : k.past ≡ None → sum_meant k.sum ≡ sum_of fs
  pub total : kept_total k ≡ total_of (the total fs)
  pub count : kept_count k ≡ count_of (the count fs)
  pub records : kept_records k ≡ count_of (the records fs)
  pub length : k.length ≡ length_of (the physical_length fs)
