-- An accepted file: the limit at its end is its header's, and its last record is its 99. Assumes nothing.
use Prim.Native.Nat.{ℕ, ◌≤◌, ◌<◌}
use native.Mathlib.Omega.{arith}
use native.Mathlib.Nat.{zero-add}
use mathlib.Core.Path.{◌≡◌, sym, ap, ◌∙◌}
use mathlib.Core.List.{◌∷◌, [], ◌++◌, append_assoc}
use lib.ListN.{length}
use Rattle.std.specs.Prelude.{Result, Ok, Err}
use Rattle.rules.specs.Bytes.{Bytes}
use Rattle.rules.specs.Outcome.{fine}
use Rattle.rules.specs.Lines.{file_records}
use Rattle.rules.specs.Verdict.{start, judge}
use Rattle.rules.specs.Limits.{longest_file}
use Rattle.rules.specs.Parts.{header_in, groups_in}
use Rattle.rules.specs.Combine.{concat}
use Rattle.laws.proofs.Groups.{decomposed, limit_is}
use Rattle.base_refusals.specs.declared.Refusal.{Refusal}
use Rattle.base_totals.specs.SummaryMeaning.{summary_meant}
use Rattle.read_file.specs.FileMeanings.{state_meant, Held}
use Rattle.read_file.proofs.FileRunLaws.{run_from, last_start, last_from, last_of, judge-end}
use Rattle.read_file.specs.FileAnswers.{EndIs, IsGood, JudgedIs}
use Rattle.read_file.specs.declared.state.State.{State}
use Rattle.read_file.specs.declared.GoodFile.{GoodFile}

-- the state after the last record, and where that starts
module _ (file : Bytes) (s : State) (last : ℕ) (some : 0 < length file) (short : length file ≤ longest_file) (held : Held s) (few : s.file.records.0 ≤ longest_file)
    (runs : run_from 0 start file ≡ fine (state_meant s)) (place : last_from 0 0 file ≡ last) where
  good : judge file ≡ fine (summary_meant s.file) → IsGood (record { summary = s.file; limit = s.limit; last = record { 0 = last } }) file
  unfolding run_from last_from file_records
  good accepts =
      let d = decomposed file (summary_meant s.file) accepts in
      record {
        accepts = accepts;
        limit = limit_is file (summary_meant s.file) accepts (state_meant s) runs;
        last =
            sym place
            ∙ ap (last_start 0 0) (d.records ∙ sym (append_assoc (header_in file) (concat (groups_in file)) (d.trailer ∷ [])))
            ∙ last_of 0 0 (header_in file ++ concat (groups_in file)) d.trailer
            ∙ zero-add _;
        groups = omega (arith, held.counted.groups);
        records = few;
      }

  pub judged-end : (r : Result GoodFile Refusal) → EndIs r s last (length file) → JudgedIs r file
  judged-end (Err why) e = judge-end file some short (state_meant s) runs ∙ e
  judged-end (Ok g) (e, is) = rw is (good (judge-end file some short (state_meant s) runs ∙ e))
