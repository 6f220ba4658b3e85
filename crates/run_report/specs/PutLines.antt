-- The parts of a report's line, its longest, and what a call leaves that puts one at the front of a slice. Assumes nothing.
use Rattle.std.specs.Prelude.{ℕ, ◌≤◌, ◌∷◌, ◌++◌, length}
use Rattle.rules.specs.Bytes.{Bytes, blank}
use Rattle.rules.specs.Numbers.{decimal}
use Rattle.rules.specs.Totals.{Summary}
use Rattle.base_numerals.specs.PutBytes.{Put}

-- a blank and a number
abbrev pub figure : ℕ → Bytes
figure n = blank ∷ decimal n

-- the numbers of groups, accounts, details and records; a part of `verdict_words` (rules/specs/Report.antt) as a line, by `summary-parts` (proofs/LineParts.antt)
unfoldable pub counts : Summary → Bytes
counts s = figure s.groups ++ (figure s.accounts ++ (figure s.details ++ figure s.records))

-- `ok`, five numbers of up to 20 digits, each after a blank and the first with a sign, and a line feed
abbrev pub longest_report : ℕ
longest_report = 109

-- the line to put and the slice before; the count that is answered and the slice after; and no line is longer
abbrev pub PutLine : Bytes → Bytes → ℕ → Bytes → Type 0
PutLine line before r after = Put line before r after × (length line ≤ longest_report)
