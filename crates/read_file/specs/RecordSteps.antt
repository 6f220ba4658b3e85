-- One record, with what the walk keeps in place of its fields. Each definition stands for the one of rules/specs/Verdict.antt without the K (`limit_k`: `limit_after`; `next_k`:
-- `state_after`; `this_k`: `of_record` of rules/specs/Totals.antt); joined by `settled-right` (proofs/SettledRecords.antt) and `step_right` (proofs/StepAgrees.antt). Assumes nothing.
use Rattle.std.specs.Prelude.{ℕ, cond, length, unwrap_or}
use Rattle.rules.specs.Outcome.{Outcome, fine, ◌>>=◌, ◌>>◌}
use Rattle.rules.specs.Numbers.{magnitudes}
use Rattle.rules.specs.Lines.{Code, file_header, same_code, Record}
use Rattle.rules.specs.Totals.{Summary, ◌⊞◌, adding}
use Rattle.rules.specs.Order.{may_follow, group_after, account_after}
use Rattle.rules.specs.Grammar.{fields_of}
use Rattle.rules.specs.Verdict.{State, own_lines, good_lines, in_order}
use Rattle.base_quantities.specs.QuantityMeanings.{sum_meant}
use Rattle.read_trailers.specs.TrailerChecks.{balanced_k}
use Rattle.read_kept.specs.declared.Kept.{Kept}
use Rattle.read_kept.specs.KeepFields.{nothing_kept}
use Rattle.read_kept.specs.KeptOfFields.{over_of}
use Rattle.read_walk.specs.WalkKept.{walk_from}

-- ---- after the fields

-- the limit after a record of this code: only a 01 gives one
unfoldable pub limit_k : Code → ℕ → Kept → ℕ
limit_k c limit k = cond (same_code c file_header) (unwrap_or k.length limit) limit

-- what a record of this code and so many lines adds
unfoldable pub this_k : Code → ℕ → Kept → Summary
this_k c n k = adding c (sum_meant k.sum) n

unfoldable pub next_k : State → Code → ℕ → Kept → State
next_k s c n k =
    record {
      expected = may_follow c;
      limit = limit_k c s.limit k;
      file = s.file ⊞ this_k c n k;
      group = group_after c s.group (this_k c n k);
      account = account_after c s.account (this_k c n k);
    }

-- the header's own lines against L; 10; 14, 11, 12, 13
unfoldable pub settled_k : State → Record → Code → Kept → Outcome State
settled_k s r c k = do
  let this = this_k c (length r) k
  own_lines c (limit_k c s.limit k) r
  over_of k
  balanced_k c (s.account ⊞ this) (s.group ⊞ this) (s.file ⊞ this) k
  fine (next_k s c (length r) k)

-- ---- a record: 3, 4, 5 of its lines; 6; its fields; and what stands after them

unfoldable pub step_k : State → Record → Outcome State
step_k s r = do
  good_lines 0 s.limit r
  c ← in_order s.expected r
  k ← walk_from (fields_of c) (nothing_kept (magnitudes s.file.sum)) r
  settled_k s r c k
