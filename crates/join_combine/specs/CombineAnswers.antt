-- What combine's answers say in document 01's terms. Assumes nothing.
use Rattle.std.specs.Prelude.{ℕ, ◌+◌, ◌≡◌, ◌++◌, leb, length, Result, Ok, Err}
use Rattle.rules.specs.Bytes.{Bytes}
use Rattle.rules.specs.Numbers.{magnitudes}
use Rattle.rules.specs.Limits.{most}
use Rattle.rules.specs.Outcome.{not_refused, refused, ◌>>=◌, ◌>>◌, check}
use Rattle.rules.specs.Totals.{Summary}
use Rattle.rules.specs.Verdict.{judge}
use Rattle.rules.specs.Parts.{header_in, groups_in}
use Rattle.rules.specs.Combine as rules
use Rattle.rules.specs.Combine.{with_trailer, concat, limit_of, lines_within, fitting, answered}
use Rattle.base_refusals.specs.RefusalMeaning.{refusal_meant}
use Rattle.read_file.specs.declared.GoodFile.{GoodFile}
use Rattle.read_file.specs.FileAnswers.{IsGood}
use Rattle.join_combine.specs.declared.Refused.{Refused}

-- an answer, with what the output slice holds
abbrev pub combined_meant : Result ℕ Refused → Bytes → rules.Answer
combined_meant (Ok n) out = record { refusal = not_refused; which = 0; len = n; output = out }
combined_meant (Err r) out = record { refusal = refusal_meant r.refusal; which = r.file; len = 0; output = out }

-- the reader's answer on a file that combine names by this number
abbrev pub JudgedAs : Result GoodFile Refused → Bytes → ℕ → Type 0
JudgedAs (Ok g) file n = IsGood g file
JudgedAs (Err r) file n = (judge file ≡ refused (refusal_meant r.refusal)) × (r.file ≡ n)

-- what combine writes of two accepted files; its answer after the 18 of B's lines; and its answer after both files' refusals; stand for the last lines of
-- `combined` (rules/specs/Combine.antt), joined by `both-accepted` and `to-fit` (proofs/CombineLaws.antt)
unfoldable pub combined_result : Bytes → Bytes → Bytes
combined_result a b = with_trailer (header_in a ++ (concat (groups_in a) ++ concat (groups_in b)))

unfoldable pub combined_fitting : Bytes → Bytes → Bytes → rules.Answer
combined_fitting a b before = answered (fitting (combined_result a b) (length before)) 0 before

unfoldable pub combined_accepted : Summary → Summary → Bytes → Bytes → Bytes → rules.Answer
combined_accepted s t a b before =
    answered
    (do
      check (leb (magnitudes s.sum + magnitudes t.sum) most) 10 0
      check (lines_within (limit_of (header_in a)) (concat (concat (groups_in b)))) 18 0
      fitting (combined_result a b) (length before))
    0 before
