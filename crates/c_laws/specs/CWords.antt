-- Read-back for C in words: where calls from a fresh `bai2_writer` in one slice can lead, and what `bai2_read` must answer of the bytes that they finish.
-- Each call is known by its contract alone. Assumes nothing.
use Rattle.std.specs.Prelude.{◌≡◌, pos, ◌-ℤ◌, take}
use Rattle.rules.specs.Bytes.{Bytes}
use Rattle.rules.specs.Outcome.{fine}
use Rattle.rules.specs.Verdict.{judge}
use Rattle.rules.specs.Writer.{Call, end_file, fresh_writer}
use Rattle.c_writer.specs.WriterFigures.{summary_of, numbers_of, replied, reply_to}
use Rattle.c_writer.specs.declared.Figures.{Figures}
use Rattle.c_writer.specs.declared.Bai2Writer.{Bai2Writer}
use Rattle.c_writer.specs.declared.Bai2Written.{Bai2Written}
use Rattle.c_reading.specs.CAnswers.{summary_figures, read_meant}
use Rattle.c_reading.specs.declared.Bai2Summary.{Bai2Summary}

-- where calls can lead, the numbers and the slice: first what `bai2_writer_new` answers, with any slice; then what any call answers and leaves, accepted or
-- refused, that was handed the numbers and the slice that the one before left
pub data Reached : Bai2Writer → Bytes → Type 0 where
  new : {w : Bai2Writer} {out : Bytes} → w ≡ numbers_of fresh_writer → Reached w out
  next : {w : Bai2Writer} {before after : Bytes} {a : Bai2Written} → Reached w before → (call : Call) → replied a after ≡ reply_to w call before → Reached a.writer after

-- no refusal, the pluses less the minuses as the total, and the same counts
pub record OwnSummary (read : Bai2Summary) (own : Figures) : Type 0 where
  pub number : read.number ≡ 0
  pub place : read.place ≡ 0
  pub total : read.total ≡ pos own.pluses -ℤ pos own.minuses
  pub groups : read.groups ≡ own.groups
  pub accounts : read.accounts ≡ own.accounts
  pub details : read.details ≡ own.details
  pub records : read.records ≡ own.lines

-- the bytes written: as many of the slice as the answer's length says
abbrev pub written : Bai2Written → Bytes → Bytes
written a out = take a.length out

-- the reader accepts the bytes written, and whatever `bai2_read` answers of them by its contract is the writer's own summary
pub record ReadsOwn (a : Bai2Written) (out : Bytes) : Type 0 where
  pub accepted : judge (written a out) ≡ fine (summary_of a.writer.file)
  pub answered : (read : Bai2Summary) → read_meant read ≡ summary_figures (judge (written a out)) → OwnSummary read a.writer.file

-- the theorem: after any calls from a fresh writer in one slice, an end of the file that is accepted
abbrev pub CReadsBack : Type 0
CReadsBack = (w : Bai2Writer) (before after : Bytes) (a : Bai2Written) → Reached w before → replied a after ≡ reply_to w end_file before → a.number ≡ 0 → ReadsOwn a after
