-- `read_file::record::settle` meets its contract. Assumes nothing.
use Rattle.std.proofs.Common.{◌≡◌, ℕ, length, ap, sym, ◌∙◌, arith}
use Rattle.std.specs.Prelude.{Ok, Err, None, IfSome}
use Rattle.std.proofs.lemmas.Result.{err_from_is_err_and}
use Rattle.rules.specs.Bytes.{Bytes}
use Rattle.rules.specs.Outcome.{Outcome, refused, fine}
use Rattle.rules.specs.Lines.{Code, lines_of}
use Rattle.rules.specs.Totals.{adding, ◌⊞◌}
use Rattle.rules.specs.Order.{group_open, account_open}
use Rattle.rules.specs.Verdict.{own_lines}
use Rattle.base_codes.specs.CodeMeaning.{code_meant}
use Rattle.base_quantities.specs.QuantityMeanings.{sum_meant}
use Rattle.base_refusals.specs.declared.Refusal.{Refusal}
use Rattle.base_refusals.specs.RefusalMeaning.{refusal_meant}
use Rattle.base_totals.specs.declared.Summary.{Summary}
use Rattle.base_totals.specs.SummaryMeaning.{summary_meant, wrapped_summary, Small}
use Rattle.base_totals.proofs.SummaryLaws.{small-sum}
use Rattle.read_kept.specs.declared.Kept.{Kept}
use Rattle.read_trailers.specs.TrailerChecks.{balanced_k}
use Rattle.read_trailers.proofs.TrailerPlaces.{balanced-most}
use Rattle.read_file.specs.declared.state.State.{State}
use Rattle.read_file.specs.FileMeanings.{state_meant}
use Rattle.read_file.specs.FileAnswers.{NextIs, Settling, SettledIs}
use Rattle.read_file.specs.RecordSteps.{limit_k, this_k}
use Rattle.read_file.proofs.SummaryBounds.{below-small, file-small, this-small, records-next, held_next}
use Rattle.read_file.proofs.SettleLaws.{settle-long, settle-over, settle-wrong, settle-next}
use Rattle.read_file.proofs.record.settle.Goals as goal

-- a state, a record of n lines and this code, what was kept of it, and the limit after it
module _ (s : State) (xs : Bytes) (c : Code) (n : ℕ) (k : Kept) (q : Settling s xs n k) (limit : ℕ) (limit_is : limit ≡ limit_k c s.limit k) where
  -- the header's own lines
  own : {o : Outcome (Unit {0})} → o ≡ own_lines c limit (lines_of xs) → own_lines c (limit_k c s.limit k) (lines_of xs) ≡ o
  own e = sym (e ∙ ap (λ (m : ℕ). own_lines c m (lines_of xs)) limit_is)

  -- what it adds, and the summaries with it
  module _ (fits : fine tt ≡ own_lines c limit (lines_of xs)) (few : k.past ≡ None) (this file group account : Summary) (adds : summary_meant this ≡ adding c (sum_meant k.sum) n)
      (in_file : summary_meant file ≡ wrapped_summary (summary_meant s.file ⊞ summary_meant this))
      (in_group : summary_meant group ≡ wrapped_summary (summary_meant s.group ⊞ summary_meant this))
      (in_account : summary_meant account ≡ wrapped_summary (summary_meant s.account ⊞ summary_meant this)) where
    this_is : summary_meant this ≡ this_k c (length (lines_of xs)) k
    unfolding this_k
    this_is = adds ∙ ap (λ (m : ℕ). adding c (sum_meant k.sum) m) q.count

    small_this : Small this
    small_this = this-small c (sum_meant k.sum) n this adds q.some-line (omega (arith, q.room)) (omega (arith, q.sums))

    small_file : Small s.file
    small_file = file-small s q.held (omega (arith, q.room))

    file_is : summary_meant file ≡ summary_meant s.file ⊞ summary_meant this
    file_is = in_file ∙ small-sum _ _ small_file small_this

    group_is : summary_meant group ≡ summary_meant s.group ⊞ summary_meant this
    group_is = in_group ∙ small-sum _ _ (below-small _ _ q.held.group small_file) small_this

    account_is : summary_meant account ≡ summary_meant s.account ⊞ summary_meant this
    account_is = in_account ∙ small-sum _ _ (below-small _ _ q.held.account small_file) small_this

    -- 14, 11, 12, 13
    settled_wrong : (why : Refusal) → refused (refusal_meant why) ≡ balanced_k c (summary_meant account) (summary_meant group) (summary_meant file) k → SettledIs (Err why) s xs c n k
    settled_wrong why b = (
      settle-wrong (state_meant s) (lines_of xs) c k (own fits) few _ _ _ _ this_is account_is group_is file_is _ (sym b),
      balanced-most _ _ k q.kept c _ _ _ _ (sym b),
    )

    -- the next state
    settled_next : fine tt ≡ balanced_k c (summary_meant account) (summary_meant group) (summary_meant file) k
        → (t : State) → NextIs t c limit file (summary_meant group) (summary_meant account) → SettledIs (Ok t) s xs c n k
    settled_next b t next =
        let file_as : summary_meant t.file ≡ summary_meant file = ap summary_meant next.file in (
          settle-next (state_meant s) (lines_of xs) c k (own fits) few _ _ _ (summary_meant t.file) this_is account_is group_is (file_as ∙ file_is)
              (rw (sym file_as) at (sym b)) _ _ _ _ next.expected (next.limit ∙ limit_is) next.group next.account,
          held_next this c (sum_meant k.sum) n adds s t group account q.held q.some-line q.sums (file_as ∙ file_is) group_is account_is (group_open c) (account_open c) next.group next.account,
          records-next this c (sum_meant k.sum) n adds s.file t.file (file_as ∙ file_is),
        )

pub returns-in_err-own_lines : goal.returns-in_err-own_lines
returns-in_err-own_lines c =
    let a = c.args in
    let p = err_from_is_err_and c.from_residual.result c.from_residual.ensures.1 in
    let e = c.in_err-own_lines.ensures in
    rw (p.1, p.2) (
      settle-long (state_meant a.st) (lines_of a.rec.now) (code_meant a.scanned.code) a.kept _ (own a.st a.rec.now _ _ a.kept c.requires _ c.limit_after-limit.ensures e.0),
      e.1,
    )

pub returns-in-Some : goal.returns-in-Some
returns-in-Some c =
    let a = c.args in
    rw c.at.ensures (
      settle-over (state_meant a.st) (lines_of a.rec.now) (code_meant a.scanned.code) a.kept
          (own a.st a.rec.now _ _ a.kept c.requires _ c.limit_after-limit.ensures c.in_ok-own_lines.ensures.0) c.in-Some.past c.in-Some.is,
      rw c.in-Some.is at c.requires.kept.past,
    )

pub returns-in_err-balance : goal.returns-in_err-balance
returns-in_err-balance c =
    let a = c.args in
    let p = err_from_is_err_and c.from_residual-in_err-balance.result c.from_residual-in_err-balance.ensures.1 in
    rw (p.1, p.2)
    (settled_wrong a.st a.rec.now _ _ a.kept c.requires _ c.limit_after-limit.ensures c.in_ok-own_lines.ensures.0 c.in_default.is _ _ _ _
    c.adding-this.ensures c.add-file.ensures c.add-group.ensures c.add-account.ensures _ c.in_err-balance.ensures)

pub returns : goal.returns
returns c =
    let a = c.args in
    settled_next a.st a.rec.now _ _ a.kept c.requires _ c.limit_after-limit.ensures c.in_ok-own_lines.ensures.0 c.in_default.is _ _ _ _
    c.adding-this.ensures c.add-file.ensures c.add-group.ensures c.add-account.ensures c.in_ok-balance.ensures _ c.next_state.ensures
