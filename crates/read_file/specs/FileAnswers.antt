-- What the answers for one record and for a file say. Assumes nothing.
use Rattle.std.specs.Prelude.{ℕ, ◌+◌, ◌≤◌, ◌<◌, ◌≡◌, cond, ◌++◌, length, Option, Some, None, Result, Ok, Err}
use Rattle.rules.specs.Bytes.{Bytes}
use Rattle.rules.specs.Outcome.{Refusal, Outcome, refused, fine, ◌>>=◌, ◌>>◌, check}
use Rattle.rules.specs.Numbers.{magnitudes}
use Rattle.rules.specs.Limits.{most, longest_file}
use Rattle.rules.specs.Lines.{Code, lines_of, record_size}
use Rattle.rules.specs.Totals.{no_summary}
use Rattle.rules.specs.Totals as totals
use Rattle.rules.specs.Order.{may_follow, ended, group_open, account_open}
use Rattle.rules.specs.Verdict.{step, judge}
use Rattle.rules.specs.Verdict as verdict
use Rattle.rules.specs.Parts.{header_in, groups_in, size_of_all}
use Rattle.rules.specs.Combine.{concat, limit_of}
use Rattle.base_quantities.specs.QuantityMeanings.{sum_meant}
use Rattle.base_refusals.specs.RefusalMeaning.{refusal_meant}
use Rattle.base_refusals.specs.declared.Refusal as code
use Rattle.read_lines.specs.LineLengths.{first_record}
use Rattle.read_order.specs.ExpectedCodes.{expected_meant}
use Rattle.read_kept.specs.declared.Kept.{Kept}
use Rattle.read_kept.specs.KeepFields.{Within}
use Rattle.base_totals.specs.declared.Summary.{Summary}
use Rattle.base_totals.specs.SummaryMeaning.{summary_meant}
use Rattle.read_file.specs.FileMeanings.{state_meant, Held}
use Rattle.read_file.specs.RecordSteps.{settled_k}
use Rattle.read_file.specs.declared.GoodFile.{GoodFile}
use Rattle.read_file.specs.declared.state.State.{State}
use Rattle.read_file.specs.declared.record.Stepped.{Stepped}

-- ---- the state after a record

-- stands for `state_after` (rules/specs/Verdict.antt), by the summaries with the record; joined by `settle-next` (proofs/SettleLaws.antt)
pub record NextIs (r : State) (c : Code) (n : ℕ) (f : Summary) (g a : totals.Summary) : Type 0 where
  pub expected : expected_meant r.expected ≡ may_follow c
  pub limit : r.limit ≡ n
  pub file : r.file ≡ f
  pub group : summary_meant r.group ≡ cond (group_open c) g no_summary
  pub account : summary_meant r.account ≡ cond (account_open c) a no_summary

-- ---- after a record's fields

-- what is known there of its n lines and of what was kept
pub record Settling (s : State) (rec : Bytes) (n : ℕ) (k : Kept) : Type 0 where
  pub held : Held s
  pub count : n ≡ length (lines_of rec)
  pub some-line : 0 < n
  pub room : s.file.records.0 + n ≤ longest_file
  pub sums : s.file.total.0 + s.file.total.1 + magnitudes (sum_meant k.sum) ≤ most
  pub kept : Within (length rec) (s.file.total.0 + s.file.total.1) k

abbrev pub SettledIs : Result State code.Refusal → State → Bytes → Code → ℕ → Kept → Type 0
SettledIs (Err why) s rec c n k = (settled_k (state_meant s) (lines_of rec) c k ≡ refused (refusal_meant why)) × (why.place.0 ≤ length rec)
SettledIs (Ok t) s rec c n k = (settled_k (state_meant s) (lines_of rec) c k ≡ fine (state_meant t)) × Held t × (t.file.records.0 ≡ s.file.records.0 + n)

-- ---- the record in front of the rest of a file

-- refused, at a place in it or at most 3 bytes after
pub record Stopped (s : State) (rest : Bytes) (why : Refusal) : Type 0 where
  pub stops : step (state_meant s) (first_record (lines_of rest)) ≡ refused why
  pub some_byte : 0 < length rest
  pub within : why.place ≤ length rest + 3

-- accepted: the state after it, and how many bytes it has
pub record Passed (s : State) (rest : Bytes) (t : State) (size : ℕ) : Type 0 where
  pub steps : step (state_meant s) (first_record (lines_of rest)) ≡ fine (state_meant t)
  pub extent : size ≡ record_size (first_record (lines_of rest))
  pub some_byte : 0 < size
  pub fits : size ≤ length rest
  pub held : Held t
  pub records : t.file.records.0 ≤ s.file.records.0 + size

-- or nothing is left
abbrev pub StepIs : Result (Option Stepped) code.Refusal → State → Bytes → Type 0
StepIs (Ok None) s rest = length rest ≡ 0
StepIs (Ok (Some next)) s rest = Passed s rest next.state next.size
StepIs (Err why) s rest = Stopped s rest (refusal_meant why)

-- ---- after the last record, which starts at `last`, of a file of n bytes

-- 6, where the 99 was not there; the end of `judge` (rules/specs/Verdict.antt), joined by `judge-end` (proofs/FileRunLaws.antt)
unfoldable pub at_end : verdict.State → ℕ → Outcome totals.Summary
at_end s n = do
  check (ended s.expected) 6 n
  fine s.file

abbrev pub EndIs : Result GoodFile code.Refusal → State → ℕ → ℕ → Type 0
EndIs (Ok g) s last n = (at_end (state_meant s) n ≡ fine (summary_meant s.file)) × (g ≡ record { summary = s.file; limit = s.limit; last = record { 0 = last } })
EndIs (Err why) s last n = at_end (state_meant s) n ≡ refused (refusal_meant why)

-- ---- a file

-- accepted, with this summary; L of its header, or 4,096; and the bytes before its 99. `groups` and `records` spare callers the bounds
pub record IsGood (g : GoodFile) (file : Bytes) : Type 0 where
  pub accepts : judge file ≡ fine (summary_meant g.summary)
  pub limit : g.limit ≡ limit_of (header_in file)
  pub last : g.last.0 ≡ size_of_all (header_in file ++ concat (groups_in file))
  pub groups : g.summary.groups.0 ≤ longest_file
  pub records : g.summary.records.0 ≤ longest_file

abbrev pub JudgedIs : Result GoodFile code.Refusal → Bytes → Type 0
JudgedIs (Ok g) file = IsGood g file
JudgedIs (Err why) file = judge file ≡ refused (refusal_meant why)
