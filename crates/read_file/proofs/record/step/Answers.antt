-- `read_file::record::step` meets its contract. Assumes nothing.
use Rattle.std.proofs.Common.{◌≡◌, ℕ, ◌+◌, ◌<◌, ◌≤◌, true, false, List, length, take, ap, sym, ◌∙◌, arith}
use Rattle.std.specs.Prelude.{Ok, Err}
use Rattle.std.proofs.lemmas.Result.{err_from_is_err_and}
use lib.ListN.{length-take}
use Rattle.rules.specs.Bytes.{Bytes}
use Rattle.rules.specs.Outcome.{Outcome, fine, ◌>>◌, check}
use Rattle.rules.specs.Limits.{longest_file}
use Rattle.rules.specs.Numbers.{magnitudes}
use Rattle.rules.specs.Lines.{Code, Record, lines_of}
use Rattle.rules.specs.Grammar.{Kind, fields_of}
use Rattle.rules.specs.Order.{among}
use Rattle.rules.specs.Verdict.{step, in_order}
use Rattle.rules.specs.Verdict as rules
use Rattle.base_refusals.specs.declared.Refusal.{Refusal}
use Rattle.base_refusals.specs.RefusalMeaning.{refusal_meant}
use Rattle.read_lines.specs.LineLengths.{first_record}
use Rattle.read_lines.proofs.OneRecord.{first_part}
use Rattle.read_line_checks.specs.LineChecks.{Whole}
use Rattle.read_line_checks.specs.LineChecks as lines
use Rattle.read_kept.specs.declared.Kept.{Kept}
use Rattle.read_kept.specs.KeepFields.{nothing_kept}
use Rattle.read_wanted.specs.declared.want.Want.{Want}
use Rattle.read_wanted.specs.Wants.{wanted_of}
use Rattle.read_walk.specs.WalkKept.{walk_from}
use Rattle.read_walk.specs.WalkAnswers.{Walks}
use Rattle.read_file.specs.declared.state.State.{State}
use Rattle.read_file.specs.FileMeanings.{state_meant, Held}
use Rattle.read_file.specs.FileAnswers.{Settling, SettledIs, Stopped, Passed}
use Rattle.read_file.specs.RecordSteps.{settled_k, step_k}
use Rattle.read_file.proofs.StepAgrees.{step_right}
use Rattle.read_file.proofs.StepLaws.{order_is, step_lines, step-order, step-walk, step-settle}
use Rattle.read_file.proofs.record.step.Goals as goal

-- a state, and the rest of the file
module _ (s : State) (rest : Bytes) (held : Held s) where
  abbrev before : rules.State
  before = state_meant s

  abbrev first : Record
  first = first_record (lines_of rest)

  right : step before first ≡ step_k before first
  right = sym (step_right before first held.bound)

  -- 3, 4, 5
  bad_lines : (why : Refusal) → lines.Stopped s.limit rest (refusal_meant why) → Stopped s rest (refusal_meant why)
  bad_lines why w = record { stops = right ∙ step_lines before first _ w.stops; some_byte = w.some_byte; within = omega (arith, w.within) }

  -- a record whose lines are good: its code, how many lines and bytes it has
  module _ (c : Code) (n size : ℕ) (w : Whole s.limit rest c n size) where
    some_byte : 0 < length rest
    some_byte = omega (arith, w.some-line, w.few, w.fits)

    lines_are : lines_of (take size rest) ≡ first
    lines_are = first_part rest size w.extent some_byte

    length_is : length (take size rest) ≡ size
    length_is = length-take size rest ∙ omega (arith, w.fits)

    order : in_order before.expected first ≡ (check (among c before.expected) 6 0 >> fine c)
    order = order_is before.expected rest c some_byte w.code

    -- 6
    out_of_order : among c before.expected ≡ false → Stopped s rest (record { number = 6; place = 0 })
    out_of_order a = record { stops = right ∙ step-order before first w.good c order a; some_byte = some_byte; within = omega arith }

    -- 7, 8, 9, after the magnitudes of the records before
    module _ (allowed : among c before.expected ≡ true) (want : Want) (want_is : wanted_of want ≡ fields_of c) where
      walked : {o : Outcome Kept} → o ≡ walk_from (wanted_of want) (nothing_kept (magnitudes before.file.sum)) (lines_of (take size rest))
          → walk_from (fields_of c) (nothing_kept (magnitudes before.file.sum)) first ≡ o
      walked answer =
          ap (λ (ks : List Kind). walk_from ks (nothing_kept (magnitudes before.file.sum)) first) (sym want_is)
          ∙ ap (λ (ls : Record). walk_from (wanted_of want) (nothing_kept (magnitudes before.file.sum)) ls) (sym lines_are)
          ∙ sym answer

      bad_fields : (why : Refusal) → Walks (take size rest) want (magnitudes before.file.sum) (Err why) → Stopped s rest (refusal_meant why)
      bad_fields why x =
          record {
            stops = right ∙ step-walk before first w.good c order allowed _ (walked x.answer);
            some_byte = some_byte;
            within = omega (arith, x.bounds, length_is, w.fits);
          }

      -- the fields were good: what was kept is settled
      module _ (k : Kept) (x : Walks (take size rest) want (magnitudes before.file.sum) (Ok k)) where
        settling : s.file.records.0 + length rest ≤ longest_file → Settling s (take size rest) n k
        settling room =
            record {
              held = held;
              count = w.count ∙ ap (λ (ls : Record). length ls) (sym lines_are);
              some-line = w.some-line;
              room = omega (arith, w.few, w.fits);
              sums = x.bounds.sum held.bound;
              kept = x.bounds;
            }

        settled : step_k before first ≡ settled_k before (lines_of (take size rest)) c k
        settled = step-settle before first w.good c order allowed k (walked x.answer) ∙ ap (λ (ls : Record). settled_k before ls c k) (sym lines_are)

        bad_sums : (why : Refusal) → SettledIs (Err why) s (take size rest) c n k → Stopped s rest (refusal_meant why)
        bad_sums why r = record { stops = right ∙ settled ∙ r.0; some_byte = some_byte; within = omega (arith, r.1, length_is, w.fits) }

        passed : (t : State) → SettledIs (Ok t) s (take size rest) c n k → Passed s rest t size
        passed t r =
            record {
              steps = right ∙ settled ∙ r.0;
              extent = w.extent;
              some_byte = omega (arith, w.some-line, w.few);
              fits = w.fits;
              held = r.1;
              records = omega (arith, r.2, w.few);
            }

pub returns-in_err-scanned : goal.returns-in_err-scanned
returns-in_err-scanned c =
    let a = c.args in
    let p = err_from_is_err_and c.from_residual.result c.from_residual.ensures.1 in
    rw (p.1, p.2) (bad_lines a.st a.rest.now c.requires.0 _ c.in_err-scanned.ensures)

pub returns-then-not-allows : goal.returns-then-not-allows
returns-then-not-allows c =
    let a = c.args in
    let w = rw (c.in_ok-scanned.was, c.in-Some.is) at c.scan_record.ensures in
    rw c.at.ensures (out_of_order a.st a.rest.now c.requires.0 _ _ _ w (sym c.allows.ensures ∙ c.if-not-allows.true))

pub returns-in_err-kept : goal.returns-in_err-kept
returns-in_err-kept c =
    let a = c.args in
    let w = rw (c.in_ok-scanned.was, c.in-Some.is) at c.scan_record.ensures in
    let p = err_from_is_err_and c.from_residual-in_err-kept.result c.from_residual-in_err-kept.ensures.1 in
    rw (p.1, p.2) (bad_fields a.st a.rest.now c.requires.0 _ _ _ w (sym c.allows.ensures ∙ c.if-not-allows.false) _ c.first_want.ensures _ c.in_err-kept.ensures)

pub settle-requires : goal.settle-requires
settle-requires c =
    let a = c.args in
    let w = rw (c.in_ok-scanned.was, c.in-Some.is) at c.scan_record.ensures in
    settling a.st a.rest.now c.requires.0 _ _ _ w (sym c.allows.ensures ∙ c.if-not-allows.false) _ c.first_want.ensures _ c.in_ok-kept.ensures c.requires.1

pub returns-in_err-state : goal.returns-in_err-state
returns-in_err-state c =
    let a = c.args in
    let w = rw (c.in_ok-scanned.was, c.in-Some.is) at c.scan_record.ensures in
    let p = err_from_is_err_and c.from_residual-in_err-state.result c.from_residual-in_err-state.ensures.1 in
    rw (p.1, p.2)
    (bad_sums a.st a.rest.now c.requires.0 _ _ _ w (sym c.allows.ensures ∙ c.if-not-allows.false) _ c.first_want.ensures _ c.in_ok-kept.ensures _ c.in_err-state.ensures)

pub returns : goal.returns
returns c =
    let a = c.args in
    let w = rw (c.in_ok-scanned.was, c.in-Some.is) at c.scan_record.ensures in
    passed a.st a.rest.now c.requires.0 _ _ _ w (sym c.allows.ensures ∙ c.if-not-allows.false) _ c.first_want.ensures _ c.in_ok-kept.ensures _ c.in_ok-state.ensures
