-- The theorems: what the writer finishes is accepted and reads back as given; 19 is only for calls out of turn; a refused call changes nothing.
-- Assumes nothing.
use mathlib.Core.Path.{◌≡◌, refl, sym}
use mathlib.Core.Bool.{true, cond}
use mathlib.Core.List.{List}
use native.Mathlib.Omega.{arith}
use lib.Dec.{eqb}
use lib.ListN.{length, take}
use borrow.Author.Tests.{ne_eqb}
use Rattle.rules.specs.Bytes.{Bytes}
use Rattle.rules.specs.Outcome.{Outcome, refused, fine}
use Rattle.rules.specs.Verdict.{judge}
use Rattle.rules.specs.Writer.{Call, end_file, sound, given, Entry, write_line, Written, written_by, write}
use Rattle.rules.proofs.Accepted.{accepted-again}
use Rattle.laws_writer.specs.SessionWords.{file_said, gathered, gives, Session, fresh_session, called, called_all}
use Rattle.laws_writer.proofs.NumberFields.{not-empty}
use Rattle.laws_writer.proofs.RecordsWritten.{state_of, Ready}
use Rattle.laws_writer.proofs.CallsKept.{ready}
use Rattle.laws_writer.proofs.Sessions.{run_of, always-keeps, called-keeps, end-ends}

-- Any calls on a fresh writer, each with the state and the slice that the one before left, refused ones among them; and then the end of the file.
module _ (calls : List Call) (out : Bytes) where
  abbrev before : Session
  before = called_all (fresh_session out) calls

  abbrev end : Written
  end = write before.writer end_file before.output

  abbrev file : Bytes
  file = take end.len end.output

  end-ready : Ready (run_of (called before end_file))
  end-ready = ready (called-keeps before end_file (always-keeps calls out)).stands

  written-size : end.refusal.number ≡ 0 → length file ≡ end.writer.size
  unfolding called
  written-size h = rw (end-ends before.writer before.output h).len (sym end-ready.size)

  -- Where that end is accepted, the bytes written are accepted, with the writer's own summary:
  pub reader-accepts : end.refusal.number ≡ 0 → judge file ≡ fine end.writer.file
  unfolding called
  reader-accepts h =
      let x = end-ends before.writer before.output h in
      let n = written-size h in
      accepted-again file end.writer.file
      (record {
        some_byte = rw (not-empty file (omega (arith, x.some_byte))) tt;
        not-too-long = omega (arith, x.few);
        last = state_of end.writer;
        runs = rw x.len end-ready.runs;
        has_ended = rw x.phase tt;
        summary = refl;
      })

  -- and record by record, in order, its code and what its fields say are what the calls gave: each amount and count the number given, each text the bytes given.
  pub reads-back : end.refusal.number ≡ 0 → file_said file ≡ (called before end_file).told
  unfolding called
  reads-back h = rw (end-ends before.writer before.output h).len end-ready.told

  -- Whatever calls came before, the state is sound: 19 is given exactly where a call is out of turn.
  pub always-sound : sound before.writer ≡ true
  always-sound = (always-keeps calls out).sound

-- A refused call changes nothing: neither the state nor the slice, nor what was told.
pub refused-stays : (s : Session) (call : Call) → ((write s.writer call s.output).refusal.number ≡ 0 → ⊥) → called s call ≡ s
unfolding called write written_by
refused-stays s call h = by-outcome (write_line s.writer (given s.writer call) (length s.output)) h
  where
    by-outcome : (o : Outcome Entry) → ((written_by s.writer o s.output).refusal.number ≡ 0 → ⊥)
        → record {
          writer = (written_by s.writer o s.output).writer;
          output = (written_by s.writer o s.output).output;
          told = cond (eqb (written_by s.writer o s.output).refusal.number 0) (gathered (given s.writer call).code s.told (gives s.writer call)) s.told;
        } ≡ s
    by-outcome (refused why) k = rw (ne_eqb why.number 0 k)
    by-outcome (fine e) k = absurd (k refl)
