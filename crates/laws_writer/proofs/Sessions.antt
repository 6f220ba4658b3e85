-- Calls one after the other keep what stands, refused ones among them. Assumes nothing.
use mathlib.Core.Path.{◌≡◌, refl, subst}
use mathlib.Core.Bool.{true, cond}
use mathlib.Core.List.{List, [], ◌∷◌}
use Prim.Native.Nat.{◌≤◌, zero-le}
use native.Mathlib.Omega.{arith}
use lib.Dec.{eqb}
use lib.ListN.{length, take}
use borrow.Author.Tests.{ne_eqb}
use Rattle.rules.specs.Bytes.{Bytes}
use Rattle.rules.specs.Outcome.{Outcome, refused, fine}
use Rattle.rules.specs.Limits.{longest_file}
use Rattle.rules.specs.Writer.{Call, end_file, finished, Writer, Given, given, sound, line_of, Entry, entry_of, write_line, Written, written_by, write}
use Rattle.laws_writer.specs.SessionWords.{gathered, gives, Session, fresh_session, called, called_all}
use Rattle.laws_writer.proofs.Placing.{placed-front, placed-length}
use Rattle.laws_writer.proofs.Passed.{Passed, passed, Numbered, line-numbered}
use Rattle.laws_writer.proofs.Sound.{sound-says, is-sound, line-some, next-sound}
use Rattle.laws_writer.proofs.RecordsWritten.{Run}
use Rattle.laws_writer.proofs.CallsKept.{Stands, nothing_yet, so_far, kept}

-- the bytes written so far
abbrev pub run_of : Session → Run
run_of s = record { writer = s.writer; bytes = take s.writer.size s.output; told = s.told }

-- what stands after calls
pub record Keeps (s : Session) : Type 0 where
  pub stands : Stands (run_of s)
  pub inside : s.writer.size ≤ length s.output
  pub sound : sound s.writer ≡ true

fresh_keeps : (out : Bytes) → Keeps (fresh_session out)
unfolding sound
fresh_keeps out = record { stands = nothing_yet; inside = zero-le; sound = refl }

-- ---- one call more

module _ (s : Session) (call : Call) (k : Keeps s) where
  abbrev line : Given
  line = given s.writer call

  abbrev after : Written → Session
  after answer =
      record {
        writer = answer.writer;
        output = answer.output;
        told = cond (eqb answer.refusal.number 0) (gathered line.code s.told (gives s.writer call)) s.told;
      }

  entry_kept : (e : Entry) → Passed s.writer line (length s.output) e → Keeps (after (written_by s.writer (fine e) s.output))
  unfolding written_by entry_of
  entry_kept e p =
      subst (λ (y : Entry). Keeps (after (written_by s.writer (fine y) s.output))) p.entry
      (record {
        stands = rw (placed-front s.writer.size (line_of line) s.output k.inside) (so_far (kept (run_of s) call (length s.output) k.stands e p));
        inside = rw (placed-length s.writer.size (line_of line) s.output p.room-left) p.room-left;
        sound = is-sound (entry_of s.writer line p.left).next (next-sound s.writer line p.left (sound-says s.writer k.sound) p.bound p.size);
      })

  outcome-kept : (o : Outcome Entry) → Numbered o → ((e : Entry) → o ≡ fine e → Passed s.writer line (length s.output) e) → Keeps (after (written_by s.writer o s.output))
  unfolding written_by
  outcome-kept (refused why) h p = rw (ne_eqb why.number 0 (λ z. omega arith)) k
  outcome-kept (fine e) h p = entry_kept e (p e refl)

  pub called-keeps : Keeps (called s call)
  unfolding called write
  called-keeps =
      outcome-kept (write_line s.writer line (length s.output)) (line-numbered s.writer line (length s.output))
      (λ e. passed s.writer line (length s.output) e)

all_keep : (s : Session) (calls : List Call) → Keeps s → Keeps (called_all s calls)
unfolding called_all
all_keep s [] k = k
all_keep s (c ∷ cs) k = all_keep (called s c) cs (called-keeps s c k)

-- after any calls on a fresh writer
pub always-keeps : (calls : List Call) (out : Bytes) → Keeps (called_all (fresh_session out) calls)
always-keeps calls out = all_keep (fresh_session out) calls (fresh_keeps out)

-- ---- an accepted end of the file

pub record Ended (answer : Written) : Type 0 where
  pub len : answer.len ≡ answer.writer.size
  pub phase : answer.writer.phase ≡ finished
  pub some_byte : 1 ≤ answer.writer.size
  pub few : answer.writer.size ≤ longest_file

module _ (w : Writer) (out : Bytes) where
  entry-ends : (e : Entry) → Passed w (given w end_file) (length out) e → Ended (written_by w (fine e) out)
  unfolding written_by entry_of given
  entry-ends e p =
      subst (λ (y : Entry). Ended (written_by w (fine y) out)) p.entry
      (record { len = refl; phase = refl; some_byte = omega (arith, line-some (given w end_file)); few = p.size })

  outcome-ends : (o : Outcome Entry) → Numbered o → ((e : Entry) → o ≡ fine e → Passed w (given w end_file) (length out) e) → (written_by w o out).refusal.number ≡ 0 → Ended (written_by w o out)
  unfolding written_by
  outcome-ends (refused why) h p z = absurd (omega arith)
  outcome-ends (fine e) h p z = entry-ends e (p e refl)

  pub end-ends : (write w end_file out).refusal.number ≡ 0 → Ended (write w end_file out)
  unfolding write
  end-ends z =
      outcome-ends (write_line w (given w end_file) (length out)) (line-numbered w (given w end_file) (length out)) (λ e. passed w (given w end_file) (length out) e) z
