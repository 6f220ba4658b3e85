-- What the answers about a record's lines say in the rules' terms: `good_line`, `good_lines` and `none_longer` (rules/specs/Verdict.antt). Assumes nothing.
use Rattle.std.specs.Prelude.{ℕ, ◌+◌, ◌≤◌, ◌<◌, ◌≡◌, Option, Some, None, Result, Ok, Err, length}
use Rattle.std.proofs.Math.Option.{some}
use Rattle.rules.specs.Bytes.{Bytes}
use Rattle.rules.specs.Outcome.{Refusal, Outcome, refused, fine}
use Rattle.rules.specs.Lines.{lines_of, code_of, record_size}
use Rattle.rules.specs.Lines as rules
use Rattle.rules.specs.Verdict.{coded, good_line, good_lines}
use Rattle.base_codes.specs.CodeMeaning.{code_meant}
use Rattle.base_refusals.specs.RefusalMeaning.{refusal_meant}
use Rattle.base_quantities.specs.declared.Place.{Place}
use Rattle.base_refusals.specs.declared.Refusal as declared
use Rattle.read_line_checks.specs.declared.GoodLine.{GoodLine}
use Rattle.read_line_checks.specs.declared.Scanned.{Scanned}
use Rattle.read_lines.specs.LineLengths.{first_line, body_len, line_len, first_record}

-- checks that say nothing but fine
abbrev pub checked_of : Result (Unit {0}) declared.Refusal → Outcome (Unit {0})
checked_of (Ok done) = fine done
checked_of (Err why) = refused (refusal_meant why)

-- a refusal's place is at most this
abbrev pub place_within : Result (Unit {0}) declared.Refusal → ℕ → Type 0
place_within (Ok done) n = Unit {0}
place_within (Err why) n = why.place.0 ≤ n

-- 3, 4 of the line that starts at p, with these bytes from there on: refused; or 5 alone is left, and where it ends without its end
abbrev pub CleanIs : Result Place declared.Refusal → ℕ → ℕ → Bytes → Type 0
CleanIs (Err why) p limit xs = (good_line p limit (first_line xs) ≡ refused (refusal_meant why)) × (why.place.0 ≤ p + length xs)
CleanIs (Ok e) p limit xs = (good_line p limit (first_line xs) ≡ coded p (first_line xs)) × (e.0 ≡ p + body_len xs)

-- 3, 4, 5 of the line that starts at p, with these bytes from there on: refused; or its code, and the place after it
abbrev pub LineIs : Result GoodLine declared.Refusal → ℕ → ℕ → Bytes → Type 0
LineIs (Err why) p limit xs = (good_line p limit (first_line xs) ≡ refused (refusal_meant why)) × (why.place.0 ≤ p + length xs)
LineIs (Ok g) p limit xs = (good_line p limit (first_line xs) ≡ fine (code_meant g.code)) × (g.next.0 ≡ p + line_len xs)

-- 3, 4, 5 of each line of the first record: refused
pub record Stopped (limit : ℕ) (s : Bytes) (why : Refusal) : Type 0 where
  pub stops : good_lines 0 limit (first_record (lines_of s)) ≡ refused why
  pub some_byte : 0 < length s
  pub within : why.place ≤ length s

-- or all are good: its code, how many lines it has, and how many bytes
pub record Whole (limit : ℕ) (s : Bytes) (c : rules.Code) (lines size : ℕ) : Type 0 where
  pub good : good_lines 0 limit (first_record (lines_of s)) ≡ fine tt
  pub code : code_of (first_line s) ≡ some c
  pub count : lines ≡ length (first_record (lines_of s))
  pub extent : size ≡ record_size (first_record (lines_of s))
  pub some-line : 0 < lines
  pub few : lines ≤ size
  pub fits : size ≤ length s

-- or there is no record
abbrev pub ScanIs : Result (Option Scanned) declared.Refusal → ℕ → Bytes → Type 0
ScanIs (Ok None) limit s = length s ≡ 0
ScanIs (Err why) limit s = Stopped limit s (refusal_meant why)
ScanIs (Ok (Some r)) limit s = Whole limit s (code_meant r.code) r.records.0 r.size
