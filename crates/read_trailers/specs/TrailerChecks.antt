-- What a trailer must say (14, 11, 12, 13), with what the walk keeps in place of its fields. Each stands for a definition of rules/specs/Totals.antt, named beside it;
-- joined, where what is kept is kept of the fields, by the lemma named after it (read_file/proofs/SettledRecords.antt). Assumes nothing.
use Rattle.std.specs.Prelude.{ℕ, eqb}
use Rattle.rules.specs.Outcome.{Outcome, fine, ◌>>◌, check}
use Rattle.rules.specs.Numbers.{as_sum, equals, within_most}
use Rattle.rules.specs.Lines.{Code, file_header, group_header, account_header, detail, account_trailer, group_trailer, file_trailer, continuation}
use Rattle.rules.specs.Totals as totals
use Rattle.read_kept.specs.declared.Kept.{Kept}

-- 14: `sum_within`; `within-right`
unfoldable pub within_k : totals.Summary → Kept → Outcome (Unit {0})
within_k s k = check (within_most s.sum) 14 k.total.at.0

-- 11: `right_total`; `total_right`
unfoldable pub total_k : totals.Summary → Kept → Outcome (Unit {0})
total_k s k = check (equals s.sum (as_sum (record { negative = k.total_negative; magnitude = k.total.value.0 }))) 11 k.total.at.0

-- 12: `right_count`; `count-right`
unfoldable pub count_k : ℕ → Kept → Outcome (Unit {0})
count_k n k = check (eqb n k.count.value.0) 12 k.count.at.0

-- 13: `right_records`; `records-right`
unfoldable pub records_k : totals.Summary → Kept → Outcome (Unit {0})
records_k s k = check (eqb s.records k.records.value.0) 13 k.records.at.0

-- an account's trailer; a group's or the file's, with the number of its accounts or groups
unfoldable pub account_k : totals.Summary → Kept → Outcome (Unit {0})
account_k s k = do
  total_k s k
  records_k s k

unfoldable pub trailer_k : totals.Summary → ℕ → Kept → Outcome (Unit {0})
trailer_k s n k = do
  within_k s k
  total_k s k
  count_k n k
  records_k s k

-- against the summaries of its account, its group and the file: `balanced`; `balanced-right`
unfoldable pub balanced_k : Code → totals.Summary → totals.Summary → totals.Summary → Kept → Outcome (Unit {0})
balanced_k file_header a g f k = fine tt
balanced_k group_header a g f k = fine tt
balanced_k account_header a g f k = fine tt
balanced_k detail a g f k = fine tt
balanced_k continuation a g f k = fine tt
balanced_k account_trailer a g f k = account_k a k
balanced_k group_trailer a g f k = trailer_k g g.accounts k
balanced_k file_trailer a g f k = trailer_k f f.groups k
