-- The reader's verdict in figures. Assumes nothing.
use Prim.Native.Nat.{◌+◌, ◌≤◌}
use mathlib.Core.Path.{◌≡◌, sym}
use lib.IntN.{ℤ, pos}
use mir.Syntax.{w64}
use mir.Val.{to_z, of_z}
use Rattle.rules.specs.Bytes.{Bytes}
use Rattle.rules.specs.Outcome.{refused, fine, not_refused}
use Rattle.rules.specs.Numbers.{as_integer}
use Rattle.rules.specs.Limits.{most}
use Rattle.rules.specs.Verdict.{judge}
use Rattle.c_reading.specs.CAnswers.{summary_figures}
use Rattle.laws.proofs.FileTheorems.{magnitudes-bounded}
use Rattle.base_quantities.specs.QuantityMeanings.{sum_meant}
use Rattle.base_refusals.specs.declared.Refusal.{Refusal}
use Rattle.base_refusals.specs.RefusalMeaning.{refusal_meant}
use Rattle.base_totals.specs.SummaryMeaning.{summary_meant}
use Rattle.base_totals.specs.declared.Summary.{Summary}
use Rattle.c_reading.proofs.TotalSigns.{difference-kept}

module _ (file : Bytes) (s : Summary) (accepted : fine (summary_meant s) ≡ judge file) where
  -- an accepted file's sum fits a signed number
  pub total-fits : s.total.0 + s.total.1 ≤ most
  total-fits = magnitudes-bounded file (summary_meant s) (sym accepted)

  -- the figures of an accepted file; the total is stored as bits
  pub accepted-figures : (n : ℤ) → n ≡ as_integer (sum_meant s.total)
      → record { refusal = not_refused; total = to_z w64 (of_z w64 n); groups = s.groups.0; accounts = s.accounts.0; details = s.details.0; records = s.records.0 } ≡ summary_figures (judge file)
  unfolding summary_figures
  accepted-figures n t = rw (sym accepted, t, difference-kept s.total.0 s.total.1 total-fits)

-- the figures of a refused one
pub refused-figures : (file : Bytes) (why : Refusal) → refused (refusal_meant why) ≡ judge file
    → record { refusal = refusal_meant why; total = pos 0; groups = 0; accounts = 0; details = 0; records = 0 } ≡ summary_figures (judge file)
unfolding summary_figures
refused-figures file why e = rw (sym e)
