-- The line of a report by its two cases. Assumes nothing.
use Prim.Native.Nat.{ℕ, ◌≤◌, ◌<◌}
use native.Mathlib.Omega.{arith}
use mathlib.Core.Path.{◌≡◌}
use mathlib.Core.List.{[], ◌∷◌, ◌++◌}
use borrow.Author.Tests.{le-leb, lt-leb}
use lib.ListN.{length, take}
use Rattle.rules.specs.Bytes.{Bytes, bytes, LF}
use Rattle.rules.specs.Limits.{most_input}
use Rattle.rules.specs.Outcome.{Outcome}
use Rattle.rules.specs.Totals.{Summary}
use Rattle.rules.specs.Verdict.{judge}
use Rattle.rules.specs.Report.{words, as_line, verdict_words, report}
use Rattle.base_numerals.specs.PutBytes.{Put}
use Rattle.base_numerals.proofs.PutLaws.{put-stands, put-unique}
use Rattle.run_report.specs.PutLines.{longest_report, PutLine}

-- more bytes than are judged
pub report-long : (input : Bytes) → most_input < length input → report input ≡ bytes "too long" ++ (LF ∷ [])
unfolding words as_line report
report-long input h = rw (lt-leb (length input) most_input h)

-- bytes that are judged
pub report-judged : (input : Bytes) → length input ≤ most_input → report input ≡ as_line (verdict_words (judge input))
unfolding report
report-judged input h = rw (le-leb (length input) most_input h)

-- the line for a verdict is put into a space of its own, and the part of it that was filled at the front of a slice
pub put-judged : (input : Bytes) (verdict : Outcome Summary) (space line out : Bytes) (k r : ℕ) (after : Bytes) → length input ≤ most_input → verdict ≡ judge input
    → longest_report ≤ length space → PutLine (as_line (verdict_words verdict)) space k line → Put (take k line) out r after → PutLine (report input) out r after
put-judged input verdict space line out k r after h v room (in-space, most) p =
    let stands : take k line ≡ as_line (verdict_words verdict) = (put-stands in-space (omega (arith, most))).0 in
    rw (report-judged input h, ← v, ← stands) (p, rw (← stands) at most)

-- one answer, and one content of the slice
pub report-one : (input : Bytes) {before : Bytes} {r r' : ℕ} {after after' : Bytes} → PutLine (report input) before r after → PutLine (report input) before r' after'
    → (r ≡ r') × (after ≡ after')
report-one input p q = put-unique p.0 q.0
