-- Sums and counts of a state: none passes a word, and the state after a line. Assumes nothing.
use mathlib.Core.Path.{◌≡◌, ap, ◌∙◌}
use mathlib.Core.Bool.{Bool, true, cond}
use Prim.Native.Nat.{ℕ, ◌+◌, ◌≤◌}
use native.Mathlib.Omega.{arith}
use Rattle.rules.specs.Numbers.{Sum, magnitudes}
use Rattle.rules.specs.Limits.{most}
use Rattle.rules.specs.Lines.{Code, group_header, account_header, detail}
use Rattle.rules.specs.Order.{group_open, account_open}
use Rattle.rules.specs.Totals as totals
use Rattle.rules.specs.Totals.{no_summary, ◌⊞◌, adding}
use Rattle.rules.specs.Writer as rules
use Rattle.rules.specs.Writer.{sound, phase_after}
use Rattle.base_quantities.specs.QuantityMeanings.{sum_meant}
use Rattle.laws_writer.proofs.Sound.{Counted, Sound, sound-says, one-few}
use Rattle.base_totals.specs.SummaryMeaning.{summary_meant, wrapped_summary, Small}
use Rattle.base_totals.proofs.SummaryLaws.{small-sum}
use Rattle.base_totals.specs.declared.Summary.{Summary}
use Rattle.write_state.specs.WriterMeaning.{writer_meant}
use Rattle.write_state.specs.declared.Writer.{Writer}
use Rattle.write_commit.specs.Commit.{state_after}

-- ---- none passes a word

small : (s : Summary) (n : ℕ) → magnitudes (sum_meant s.total) ≤ most → n ≤ 16_777_216 → Counted n (summary_meant s) → Small s
small s n m h c =
    record {
      pluses = omega arith;
      minuses = omega arith;
      groups = omega (arith, c.groups);
      accounts = omega (arith, c.accounts);
      details = omega (arith, c.details);
      records = omega (arith, c.records);
    }

-- what a line adds
pub small_line : (s : Summary) (c : Code) (sum : Sum) → summary_meant s ≡ adding c sum 1 → magnitudes sum ≤ most → Small s
unfolding adding
small_line s c sum e h =
    record {
      pluses = omega (arith, ap (λ (x : totals.Summary). x.sum.pluses) e);
      minuses = omega (arith, ap (λ (x : totals.Summary). x.sum.minuses) e);
      groups = omega (arith, ap (λ (x : totals.Summary). x.groups) e, one-few c group_header);
      accounts = omega (arith, ap (λ (x : totals.Summary). x.accounts) e, one-few c account_header);
      details = omega (arith, ap (λ (x : totals.Summary). x.details) e, one-few c detail);
      records = omega (arith, ap (λ (x : totals.Summary). x.records) e);
    }

-- what a line adds to a sound state's summaries wraps nowhere
module _ (w : Writer) (h : sound (writer_meant w) ≡ true) (this : Summary) (t : Small this) where
  says : Sound (writer_meant w)
  says = sound-says (writer_meant w) h

  pub to-file : {s : totals.Summary} → s ≡ wrapped_summary (summary_meant w.file ⊞ summary_meant this) → s ≡ summary_meant w.file ⊞ summary_meant this
  to-file e = e ∙ small-sum w.file this (small w.file w.size.0 says.file says.size says.in-file) t

  pub to-group : {s : totals.Summary} → s ≡ wrapped_summary (summary_meant w.group ⊞ summary_meant this) → s ≡ summary_meant w.group ⊞ summary_meant this
  to-group e = e ∙ small-sum w.group this (small w.group w.size.0 (omega (arith, says.group, says.file)) says.size says.in_group) t

  pub to-account : {s : totals.Summary} → s ≡ wrapped_summary (summary_meant w.account ⊞ summary_meant this) → s ≡ summary_meant w.account ⊞ summary_meant this
  to-account e = e ∙ small-sum w.account this (small w.account w.size.0 (omega (arith, says.account, says.file)) says.size says.in-account) t

-- ---- the state after a line

pub state-is : (w : rules.Writer) (c : Code) (sum : Sum) (items : Bool) (n : ℕ) {p : rules.Phase} {in_group in-account : Bool} {this file g a group account : totals.Summary}
    → p ≡ phase_after c → this ≡ adding c sum 1 → in_group ≡ group_open c → in-account ≡ account_open c → file ≡ w.file ⊞ this
    → g ≡ w.group ⊞ this → a ≡ w.account ⊞ this → group ≡ cond in_group g no_summary → account ≡ cond in-account a no_summary
    → record { phase = p; items = items; size = w.size + n; file = file; group = group; account = account } ≡ state_after w c sum items n
state-is w c sum items n e1 e2 e3 e4 e5 e6 e7 e8 e9 = rw (e5, e8, e9, e6, e7, e3, e4, e1, e2)
