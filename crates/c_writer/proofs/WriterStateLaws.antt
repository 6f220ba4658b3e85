-- The writer's calls from C on any numbers: a state is its numbers, calls one after the other are the rules' calls, and numbers that are no state's get 19.
-- Assumes nothing.
use mathlib.Core.Path.{◌≡◌, refl}
use mathlib.Core.Bool.{Bool, true, false, cond}
use mathlib.Core.List.{List, [], ◌∷◌}
use lib.Dec.{leb, eqb}
use lib.ListN.{length}
use Rattle.rules.specs.Bytes.{Bytes}
use Rattle.rules.specs.Outcome.{Outcome, refused, fine}
use Rattle.rules.specs.Writer.{Call, Phase, fresh, between_groups, in_group, in_account, between_accounts, finished, Writer, sound, given, Entry, write_line, written_by, write}
use Rattle.laws_writer.specs.SessionWords.{Session, called, called_all}
use Rattle.c_writer.specs.WriterFigures.{phase_number, phase_of, flag, numbers_of, known, size_of, state_of, numbers_after, replied, reply_to, asked, asked_all, in_numbers}
use Rattle.c_writer.specs.declared.Bai2Writer.{Bai2Writer}

-- ---- a state is its numbers

phase-back : (p : Phase) → phase_of (phase_number p) ≡ p
unfolding phase_of
phase-back fresh = refl
phase-back between_groups = refl
phase-back in_group = refl
phase-back in_account = refl
phase-back between_accounts = refl
phase-back finished = refl

items_back : (t : Bool) → eqb (flag t) 1 ≡ t
items_back true = refl
items_back false = refl

phase-known : (p : Phase) → leb (phase_number p) 5 ≡ true
phase-known fresh = refl
phase-known between_groups = refl
phase-known in_group = refl
phase-known in_account = refl
phase-known between_accounts = refl
phase-known finished = refl

items-known : (t : Bool) → leb (flag t) 1 ≡ true
items-known true = refl
items-known false = refl

size_back : (w : Writer) → size_of (numbers_of w) ≡ w.size
unfolding size_of known
size_back w = rw (phase-known w.phase, items-known w.items)

-- The numbers of a state say that state.
pub numbers-back : (w : Writer) → state_of (numbers_of w) ≡ w
unfolding state_of
numbers-back w = rw (phase-back w.phase, items_back w.items, size_back w)

-- ---- calls from C are the rules' calls

same-either : {A : Type 0} (t : Bool) (a : A) → cond t a a ≡ a
same-either true a = refl
same-either false a = refl

-- the numbers after a call are those of the rules' state after it, refused or not
numbers_after_lem : (w : Writer) (o : Outcome Entry) (before : Bytes)
    → numbers_after (numbers_of w) (written_by w o before) ≡ numbers_of (written_by w o before).writer
unfolding numbers_after written_by
numbers_after_lem w (refused why) before = same-either (eqb why.number 0) (numbers_of w)
numbers_after_lem w (fine e) before = refl

one-call : (s : Session) (call : Call) → asked (in_numbers s) call ≡ in_numbers (called s call)
unfolding asked reply_to called write
one-call s call =
    rw (numbers-back s.writer, numbers_after_lem s.writer (write_line s.writer (given s.writer call) (length s.output)) s.output)

-- Whatever calls come from C, each with the numbers and the slice that the one before left: the numbers and the slice are those of the rules' session.
-- So the theorems of `laws_writer` hold of the files that C writes.
pub calls-from-c : (s : Session) (calls : List Call) → asked_all (in_numbers s) calls ≡ in_numbers (called_all s calls)
unfolding asked_all called_all
calls-from-c s [] = refl
calls-from-c s (c ∷ cs) = rw (one-call s c) (calls-from-c (called s c) cs)

-- ---- made_up numbers

-- Where phase or items are no state's, the call is refused by 19, the numbers are handed back and the slice stays.
pub made_up : (w : Bai2Writer) (call : Call) (before : Bytes) → known w ≡ false
    → reply_to w call before ≡ replied (record { number = 19; place = 0; length = 0; writer = w }) before
unfolding reply_to numbers_after write write_line written_by sound state_of size_of
made_up w call before h = rw h
