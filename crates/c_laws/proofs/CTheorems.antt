-- What C's calls finish, `bai2_read` answers with the writer's own summary. Assumes nothing.
use Prim.Native.Nat.{ℕ, zero, suc, ◌-◌, ◌+◌}
use mathlib.Core.Path.{◌≡◌, refl, sym, ap, ◌∙◌}
use mathlib.Core.List.{List, [], ◌∷◌, ◌++◌}
use native.Mathlib.Omega.{arith}
use lib.IntN.{pos, sub_ℕ, ◌-ℤ◌}
use lib.ListN.{take}
use borrow.Author.Tests.{le-ltb}
use Rattle.rules.specs.Bytes.{Bytes}
use Rattle.rules.specs.Outcome.{fine}
use Rattle.rules.specs.Totals.{Summary}
use Rattle.rules.specs.Verdict.{judge}
use Rattle.rules.specs.Writer.{Call, end_file, Written, write}
use Rattle.laws_writer.specs.SessionWords.{Session, fresh_session, called, called_all}
use Rattle.laws_writer.proofs.WriterTheorems.{reader-accepts}
use Rattle.c_writer.specs.WriterFigures.{figures_of, numbers_of, numbers_after, answer_of, Reply, replied, reply_to, Sitting, asked, asked_all, in_numbers}
use Rattle.c_writer.specs.declared.Bai2Writer.{Bai2Writer}
use Rattle.c_writer.specs.declared.Bai2Written.{Bai2Written}
use Rattle.c_writer.proofs.WriterStateLaws.{numbers-back, calls-from-c}
use Rattle.c_reading.specs.CAnswers.{SummaryFigures, summary_figures, read_meant}
use Rattle.c_reading.specs.declared.Bai2Summary.{Bai2Summary}
use Rattle.c_laws.specs.CWords.{Reached, new, next, OwnSummary, written, ReadsOwn, CReadsBack}

-- ---- calls from C are a session of the rules

-- the calls that led here, from this slice on
record Led (w : Bai2Writer) (out : Bytes) : Type 0 where
  pub first : Bytes
  pub calls : List Call
  pub same : record { writer = w; output = out } ≡ in_numbers (called_all (fresh_session first) calls)

called-last : (s : Session) (calls : List Call) (c : Call) → called_all s (calls ++ (c ∷ [])) ≡ called (called_all s calls) c
unfolding called_all
called-last s [] c = refl
called-last s (d ∷ calls) c = called-last (called s d) calls c

one_more : (w : Bai2Writer) (before after : Bytes) (a : Bai2Written) (call : Call) → replied a after ≡ reply_to w call before → Led w before → Led a.writer after
unfolding asked asked_all called_all
one_more w before after a call h s =
    let t = called_all (fresh_session s.first) s.calls in
    record {
      first = s.first;
      calls = s.calls ++ (call ∷ []);
      same =
          ap (λ (r : Reply). record { writer = r.answer.writer; output = r.output }) h
          ∙ ap (λ (x : Sitting). asked x call) s.same
          ∙ calls-from-c t (call ∷ [])
          ∙ ap in_numbers (sym (called-last (fresh_session s.first) s.calls call));
    }

led-by : {w : Bai2Writer} {out : Bytes} → Reached w out → Led w out
unfolding called_all
led-by {w} {out} (new e) = record { first = out; calls = []; same = ap (λ (x : Bai2Writer). record { writer = x; output = out }) e }
led-by (next {w} {before} {after} {a} r call h) = one_more w before after a call h (led-by r)

-- ---- an accepted end of the file

-- what the rules' call answers, from what C's answers
module _ (s : Session) (a : Bai2Written) (after : Bytes) (h : replied a after ≡ reply_to (numbers_of s.writer) end_file s.output) (z : a.number ≡ 0) where
  abbrev end : Written
  end = write s.writer end_file s.output

  reply-is : replied a after ≡ replied (answer_of (numbers_of s.writer) end) end.output
  unfolding reply_to
  reply-is = h ∙ rw (numbers-back s.writer)

  answer-is : a ≡ answer_of (numbers_of s.writer) end
  answer-is = ap (λ (r : Reply). r.answer) reply-is

  end-accepted : end.refusal.number ≡ 0
  end-accepted = sym (ap (λ (x : Bai2Written). x.number) answer-is) ∙ z

  file-is : written a after ≡ take end.len end.output
  file-is = ap (λ (r : Reply). written r.answer r.output) reply-is

  own_is : a.writer.file ≡ figures_of end.writer.file
  unfolding numbers_after
  own_is = ap (λ (x : Bai2Written). x.writer.file) answer-is ∙ rw end-accepted

-- ---- the reader's figures

minus_is : (p m : ℕ) → sub_ℕ p m ≡ pos p -ℤ pos m
minus_is p zero = let e : p - 0 ≡ p + 0 = omega arith in rw (le-ltb p 0 (omega arith), e)
minus_is p (suc m) = refl

own-summary : (file : Bytes) (s : Summary) (read : Bai2Summary) → judge file ≡ fine s → read_meant read ≡ summary_figures (judge file) → OwnSummary read (figures_of s)
unfolding summary_figures
own-summary file s read j e =
    let f : read_meant read ≡ summary_figures (fine s) = e ∙ ap summary_figures j in
    record {
      number = ap (λ (x : SummaryFigures). x.refusal.number) f;
      place = ap (λ (x : SummaryFigures). x.refusal.place) f;
      total = ap (λ (x : SummaryFigures). x.total) f ∙ minus_is s.sum.pluses s.sum.minuses;
      groups = ap (λ (x : SummaryFigures). x.groups) f;
      accounts = ap (λ (x : SummaryFigures). x.accounts) f;
      details = ap (λ (x : SummaryFigures). x.details) f;
      records = ap (λ (x : SummaryFigures). x.records) f;
    }

-- ---- the theorem

session-reads-own : (first : Bytes) (calls : List Call) (a : Bai2Written) (after : Bytes)
    → replied a after ≡ (let s = called_all (fresh_session first) calls in reply_to (numbers_of s.writer) end_file s.output) → a.number ≡ 0 → ReadsOwn a after
session-reads-own first calls a after h z =
    let s = called_all (fresh_session first) calls in
    let j : judge (written a after) ≡ fine (write s.writer end_file s.output).writer.file =
    rw (file-is s a after h z) (reader-accepts calls first (end-accepted s a after h z)) in
    record {
      accepted = rw (own_is s a after h z) j;
      answered = λ read e. rw (own_is s a after h z) (own-summary (written a after) _ read j e);
    }

-- Calls from a fresh `bai2_writer` in one slice, ended well: `bai2_read` of the bytes written answers the writer's own summary.
pub c-reads-back : CReadsBack
c-reads-back w before after a r h z =
    let s = led-by r in
    session-reads-own s.first s.calls a after (h ∙ ap (λ (x : Sitting). reply_to x.writer end_file x.output) s.same) z
