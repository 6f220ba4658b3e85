-- What is kept of fields is what the rules' folds give. Assumes nothing.
use Prim.Native.Nat.{ℕ, ◌≤◌}
use mathlib.Core.Path.{◌≡◌, refl}
use mathlib.Core.List.{List}
use Rattle.rules.specs.Bytes.{is_empty}
use Rattle.rules.specs.Numbers.{number_from}
use Rattle.rules.specs.Amounts.{amount_in}
use Rattle.rules.specs.Limits.{most}
use Rattle.rules.specs.Grammar.{total, count, records, physical_length}
use Rattle.rules.specs.Records.{Field, the}
use Rattle.rules.proofs.Tests.{Known, holds, fails, known}
use Rattle.base_amounts.proofs.AmountLaws.{adds-signed}
use Rattle.read_wanted.specs.Wants.{for_total, for_count, for_records, for_length, same_purpose, purpose}
use Rattle.read_kept.specs.declared.Kept.{Kept}
use Rattle.read_kept.specs.KeepFields.{first_of, nothing_kept, keep_with, keep_field, keep_all}
use Rattle.read_kept.specs.KeptOfFields.{kept_total, kept_count, kept_records, total_of, count_of, length_of, KeptOf}
use Rattle.read_kept.proofs.EachKind.{told}
use Rattle.read_kept.proofs.KeptSums.{bounded, sums}
use Rattle.read_kept.proofs.StatedLaws.{first-is}

-- what a field does to each figure, by whether it is for it and whether one was seen
total-gets : (k : Kept) (f : Field) → Known (same_purpose for_total (purpose f.kind)) → Known k.total_seen
    → kept_total (keep_field k f) ≡ first_of (same_purpose for_total (purpose f.kind)) k.total_seen (kept_total k) (total_of f)
unfolding keep_field keep_with
total-gets k f (holds e) (holds h) = rw (e, h)
total-gets k f (holds e) (fails h) = rw (e, h, adds-signed (amount_in f.bytes))
total-gets k f (fails e) h = rw e

count-gets : (k : Kept) (f : Field) → Known (same_purpose for_count (purpose f.kind)) → Known k.count_seen
    → kept_count (keep_field k f) ≡ first_of (same_purpose for_count (purpose f.kind)) k.count_seen (kept_count k) (count_of f)
unfolding keep_field keep_with
count-gets k f (holds e) (holds h) = rw (e, h)
count-gets k f (holds e) (fails h) = rw (e, h)
count-gets k f (fails e) h = rw e

records-gets : (k : Kept) (f : Field) → Known (same_purpose for_records (purpose f.kind)) → Known k.records_seen
    → kept_records (keep_field k f) ≡ first_of (same_purpose for_records (purpose f.kind)) k.records_seen (kept_records k) (count_of f)
unfolding keep_field keep_with
records-gets k f (holds e) (holds h) = rw (e, h)
records-gets k f (holds e) (fails h) = rw (e, h)
records-gets k f (fails e) h = rw e

length-gets : (k : Kept) (f : Field) → Known (same_purpose for_length (purpose f.kind)) → Known k.length_seen
    → (keep_field k f).length ≡ first_of (same_purpose for_length (purpose f.kind)) k.length_seen k.length (length_of f)
unfolding keep_field keep_with
length-gets k f (holds e) (holds h) = rw (e, h)
length-gets k f (holds e) (fails h) = rw (e, h)
length-gets k f (fails e) h = rw e

pub kept_of : (m : ℕ) (fs : List Field) → m ≤ most → KeptOf m fs (keep_all (nothing_kept m) fs)
unfolding keep_field keep_with the is_empty amount_in number_from
kept_of m fs h =
    record {
      bound = bounded m fs h;
      sum = sums m fs h;
      total =
          first-is kept_total (λ k. k.total_seen) total_of for_total total (λ j. (told j).1)
          (λ k f. total-gets k f (known (same_purpose for_total (purpose f.kind))) (known k.total_seen)) (λ k f. refl) fs (nothing_kept m) refl refl;
      count =
          first-is kept_count (λ k. k.count_seen) count_of for_count count (λ j. (told j).2)
          (λ k f. count-gets k f (known (same_purpose for_count (purpose f.kind))) (known k.count_seen)) (λ k f. refl) fs (nothing_kept m) refl refl;
      records =
          first-is kept_records (λ k. k.records_seen) count_of for_records records (λ j. (told j).3)
          (λ k f. records-gets k f (known (same_purpose for_records (purpose f.kind))) (known k.records_seen)) (λ k f. refl) fs (nothing_kept m) refl refl;
      length =
          first-is (λ k. k.length) (λ k. k.length_seen) length_of for_length physical_length (λ j. (told j).4)
          (λ k f. length-gets k f (known (same_purpose for_length (purpose f.kind))) (known k.length_seen)) (λ k f. refl) fs (nothing_kept m) refl refl;
    }
