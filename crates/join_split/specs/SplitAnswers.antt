-- What split's answers say in document 01's terms. Assumes nothing.
use Rattle.std.specs.Prelude.{ℕ, ◌+◌, ◌≤◌, ◌≡◌, Bool, true, false, ◌++◌, length, take, drop, Result, Ok, Err}
use Rattle.rules.specs.Bytes.{Bytes}
use Rattle.rules.specs.Outcome.{not_refused, Outcome, refused, fine}
use Rattle.rules.specs.Lines.{lines_of, record_size, record_bytes}
use Rattle.rules.specs.Totals.{Summary}
use Rattle.rules.specs.Verdict.{judge}
use Rattle.rules.specs.Parts.{header_in, groups_in}
use Rattle.rules.specs.Combine as rules
use Rattle.rules.specs.Combine.{summary_of_all, fresh_trailer, with_trailer, concat}
use Rattle.rules.specs.Split.{groups_for}
use Rattle.base_refusals.specs.RefusalMeaning.{refusal_meant}
use Rattle.base_numerals.specs.PutBytes.{Put}
use Rattle.read_lines.specs.LineLengths.{first_record}
use Rattle.join_trailer.specs.declared.Trailer.{Trailer}
use Rattle.base_refusals.specs.declared.Refusal.{Refusal}

-- an answer, with what the output slice holds
abbrev pub answer_meant : Result ℕ Refusal → Bytes → rules.Answer
answer_meant (Ok n) out = record { refusal = not_refused; which = 0; len = n; output = out }
answer_meant (Err why) out = record { refusal = refusal_meant why; which = 0; len = 0; output = out }

-- the reader accepts the file
abbrev pub is_fine : Outcome Summary → Bool
is_fine (refused why) = false
is_fine (fine s) = true

abbrev pub Accepts : Bytes → Type 0
Accepts file = is_fine (judge file) ≡ true

-- so many bytes of an accepted file are its header; stands for `header_in` (rules/specs/Parts.antt), joined by `opened` (join_groups/proofs/GroupOpens.antt)
abbrev pub Opens : Bytes → ℕ → Type 0
Opens file h = Accepts file × (h ≡ 0 + record_size (first_record (lines_of (drop 0 file))))

-- what split writes after the header: the groups for the name, and a fresh 99; parts of `split_result`, joined by `result_parts` (proofs/SplitLaws.antt)
unfoldable pub split_groups : Bytes → Bytes → Bytes
split_groups name file = record_bytes (concat (groups_for name (groups_in file)))

unfoldable pub split_last : Bytes → Bytes → Bytes
split_last name file = fresh_trailer (summary_of_all (header_in file ++ concat (groups_for name (groups_in file))))

-- so many bytes of groups, put into a slice that has room for them; and the 99
pub record RestIs (name file before : Bytes) (bytes : ℕ) (last : Trailer) (after : Bytes) : Type 0 where
  pub count : bytes ≡ length (split_groups name file)
  pub put : length (split_groups name file) ≤ length before → Put (split_groups name file) before bytes after
  pub is_last : take last.length last.bytes ≡ split_last name file
  pub last-most : (last.length ≤ 80) × (length last.bytes ≡ 80)

-- what split writes of an accepted file; stands for the last line of `split_out` (rules/specs/Split.antt), joined by `split-accepted` (proofs/NameLaws.antt)
unfoldable pub split_result : Bytes → Bytes → Bytes
split_result name file = with_trailer (header_in file ++ concat (groups_for name (groups_in file)))
