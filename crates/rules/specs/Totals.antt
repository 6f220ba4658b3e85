-- Document 01, "Totals and counts": what a record adds, and what a trailer must say: 10, then 14, 11, 12, 13. Assumes nothing.
use Rattle.std.specs.Prelude.{ℕ, ◌+◌, cond, ◌||◌, List, [], ◌∷◌, leb, eqb, length}
use Rattle.rules.specs.Numbers.{Sum, zero_sum, ◌⊕◌, number, magnitudes, equals, within_most}
use Rattle.rules.specs.Amounts.{amount_in, amount_adds}
use Rattle.rules.specs.Limits.{most}
use Rattle.rules.specs.Outcome.{Outcome, fine, ◌>>=◌, ◌>>◌, check}
use Rattle.rules.specs.Lines.{Code, file_header, group_header, account_header, detail, account_trailer, group_trailer, file_trailer, continuation, same_code, Record}
use Rattle.rules.specs.Grammar.{amount, status_amount, total, count, records, same_kind}
use Rattle.rules.specs.Records.{Field, the}

-- ---- what records add

-- a file's summary: its total and its numbers of groups, accounts, details and records, which are lines; likewise a group's, an account's, a record's
pub record Summary : Type 0 where
  pub sum : Sum
  pub groups : ℕ
  pub accounts : ℕ
  pub details : ℕ
  pub records : ℕ

abbrev pub no_summary : Summary
no_summary = record { sum = zero_sum; groups = 0; accounts = 0; details = 0; records = 0 }

infixl 60 ◌⊞◌
unfoldable pub ◌⊞◌ : Summary → Summary → Summary
◌⊞◌ a b =
    record {
      sum = a.sum ⊕ b.sum;
      groups = a.groups + b.groups;
      accounts = a.accounts + b.accounts;
      details = a.details + b.details;
      records = a.records + b.records;
    }

-- what a field's amount adds: a debit is added, and funds amounts are left out
unfoldable pub amount_of : Field → Sum
amount_of f = cond (same_kind f.kind amount || same_kind f.kind status_amount) (amount_adds (amount_in f.bytes)) zero_sum

unfoldable pub sum_of : List Field → Sum
sum_of [] = zero_sum
sum_of (f ∷ fs) = amount_of f ⊕ sum_of fs

-- 1 where the codes are the same
abbrev pub one : Code → Code → ℕ
one c d = cond (same_code c d) 1 0

-- what so many lines of a record of this code add, with this sum of amounts
unfoldable pub adding : Code → Sum → ℕ → Summary
adding c sum lines = record { sum = sum; groups = one c group_header; accounts = one c account_header; details = one c detail; records = lines }

unfoldable pub of_record : Code → Record → List Field → Summary
of_record c r fs = adding c (sum_of fs) (length r)

-- ---- 10

-- at the first amount that takes the magnitudes, m before these fields, past the largest
unfoldable pub bounded_from : ℕ → List Field → Outcome (Unit {0})
bounded_from m [] = fine tt
bounded_from m (f ∷ fs) =
    let n = m + magnitudes (amount_of f) in
    check (leb n most) 10 f.place >>= λ _. bounded_from n fs

-- ---- 14, 11, 12, 13

-- 14: a group's or file's sum, at the total
unfoldable pub sum_within : Summary → List Field → Outcome (Unit {0})
sum_within s fs = check (within_most s.sum) 14 (the total fs).place

-- 11: a trailer's total; 12: its count of accounts or groups; 13: its record count
unfoldable pub right_total : Summary → List Field → Outcome (Unit {0})
right_total s fs = let f = the total fs in check (equals s.sum (amount_adds (amount_in f.bytes))) 11 f.place

unfoldable pub right_count : ℕ → List Field → Outcome (Unit {0})
right_count n fs = let f = the count fs in check (eqb n (number f.bytes)) 12 f.place

unfoldable pub right_records : Summary → List Field → Outcome (Unit {0})
right_records s fs = let f = the records fs in check (eqb s.records (number f.bytes)) 13 f.place

-- a trailer against the summaries of its account, its group and the file, itself included; other records state nothing
unfoldable pub balanced : Code → Summary → Summary → Summary → List Field → Outcome (Unit {0})
balanced file_header account group file fs = fine tt
balanced group_header account group file fs = fine tt
balanced account_header account group file fs = fine tt
balanced detail account group file fs = fine tt
balanced continuation account group file fs = fine tt
balanced account_trailer account group file fs = do
  right_total account fs
  right_records account fs
balanced group_trailer account group file fs = do
  sum_within group fs
  right_total group fs
  right_count group.accounts fs
  right_records group fs
balanced file_trailer account group file fs = do
  sum_within file fs
  right_total file fs
  right_count file.groups fs
  right_records file fs
