-- The two lines of a verdict by their parts, and how long they are. Assumes nothing.
use Prim.Native.Nat.{ℕ, ◌≤◌, ◌<◌}
use native.Mathlib.Omega.{arith}
use mathlib.Core.Path.{◌≡◌}
use mathlib.Core.List.{[], ◌∷◌, ◌++◌, append_assoc}
use lib.ListN.{length, length-append}
use Rattle.rules.specs.Bytes.{bytes, LF}
use Rattle.rules.specs.Numbers.{total_bytes}
use Rattle.rules.specs.Outcome.{Refusal, refused, fine}
use Rattle.rules.specs.Totals.{Summary}
use Rattle.rules.specs.Report.{words, as_line, verdict_words}
use Rattle.base_digits.proofs.DigitStrings.{decimal-short}
use Rattle.base_digits.proofs.TotalStrings.{total-short}
use Rattle.run_report.specs.PutLines.{figure, counts, longest_report}

pub summary-parts : (s : Summary)
    → as_line (verdict_words (fine s))
    ≡ bytes "ok " ++ (total_bytes s.sum ++ (counts s ++ (LF ∷ [])))
unfolding words as_line verdict_words counts
summary-parts s = simp append_assoc

pub refusal-parts : (why : Refusal) → as_line (verdict_words (refused why)) ≡ bytes "refused" ++ (figure why.number ++ (figure why.place ++ (LF ∷ [])))
unfolding words as_line verdict_words
refusal-parts why = simp append_assoc

-- a number of 64 bits
abbrev pub Small : ℕ → Type 0
Small n = n < 18_446_744_073_709_551_616

pub summary-most : (s : Summary) → Small s.sum.pluses → Small s.sum.minuses → Small s.groups → Small s.accounts → Small s.details → Small s.records
    → length (as_line (verdict_words (fine s))) ≤ longest_report
unfolding counts
summary-most s p m g a d r =
    rw (summary-parts s)
    (simp length-append
    (omega (arith, total-short s.sum p m, decimal-short s.groups g, decimal-short s.accounts a, decimal-short s.details d, decimal-short s.records r)))

pub refusal-most : (why : Refusal) → Small why.number → Small why.place → length (as_line (verdict_words (refused why))) ≤ longest_report
refusal-most why n p = rw (refusal-parts why) (simp length-append (omega (arith, decimal-short why.number n, decimal-short why.place p)))
