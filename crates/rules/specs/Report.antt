-- The line that the program `summary` writes for the bytes that it is given. Assumes nothing.
use Rattle.std.specs.Prelude.{cond, List, [], ◌∷◌, ◌++◌, leb, length}
use Rattle.rules.specs.Limits.{most_input}
use Rattle.rules.specs.Bytes.{Bytes, bytes, LF, blank}
use Rattle.rules.specs.Numbers.{decimal, total_bytes}
use Rattle.rules.specs.Outcome.{Outcome, refused, fine}
use Rattle.rules.specs.Totals.{Summary}
use Rattle.rules.specs.Verdict.{judge}

-- words with a blank between them
unfoldable pub words : List Bytes → Bytes
words [] = []
words (w ∷ []) = w
words (w ∷ v ∷ ws) = w ++ (blank ∷ words (v ∷ ws))

-- such words as a line, ended by LF
unfoldable pub as_line : List Bytes → Bytes
as_line ws = words ws ++ (LF ∷ [])

-- a refusal's number and place; or a summary's total and its numbers of groups, accounts, details and records
unfoldable pub verdict_words : Outcome Summary → List Bytes
verdict_words (refused why) = bytes "refused" ∷ decimal why.number ∷ decimal why.place ∷ []
verdict_words (fine s) = bytes "ok" ∷ total_bytes s.sum ∷ decimal s.groups ∷ decimal s.accounts ∷ decimal s.details ∷ decimal s.records ∷ []

-- the verdict, or that there are more bytes than are judged
unfoldable pub report : Bytes → Bytes
report input = as_line (cond (leb (length input) most_input) (verdict_words (judge input)) (bytes "too long" ∷ []))
