-- What the writer's numbers and answers to C say in document 01's terms. They stand for `Writer` and `write` (rules/specs/Writer.antt): joined by
-- `numbers-back` and `calls-from-c` (proofs/WriterStateLaws.antt). Assumes nothing.
use Rattle.std.specs.Prelude.{ℕ, ◌+◌, Bool, true, false, cond, ◌&&◌, List, [], ◌∷◌, leb, eqb, ℤ, pos, negsuc}
use Rattle.std.proofs.Math.Option.{Option, none, some}
use Rattle.rules.specs.Bytes.{Bytes}
use Rattle.rules.specs.Numbers.{Signed}
use Rattle.rules.specs.Totals.{Summary}
use Rattle.rules.specs.Limits.{longest_file}
use Rattle.rules.specs.Writer.{Item, Call, Phase, fresh, between_groups, in_group, in_account, between_accounts, finished, Writer, Written, write}
use Rattle.laws_writer.specs.SessionWords.{Session}
use Rattle.c_writer.specs.declared.Figures.{Figures}
use Rattle.c_writer.specs.declared.Bai2Writer.{Bai2Writer}
use Rattle.c_writer.specs.declared.Bai2Written.{Bai2Written}

-- ---- the state and its numbers

abbrev pub figures_of : Summary → Figures
figures_of s =
    record {
      pluses = s.sum.pluses;
      minuses = s.sum.minuses;
      groups = s.groups;
      accounts = s.accounts;
      details = s.details;
      lines = s.records;
    }

abbrev pub summary_of : Figures → Summary
summary_of f =
    record {
      sum = record { pluses = f.pluses; minuses = f.minuses };
      groups = f.groups;
      accounts = f.accounts;
      details = f.details;
      records = f.lines;
    }

-- include/bai2.h's number for each phase
abbrev pub phase_number : Phase → ℕ
phase_number fresh = 0
phase_number between_groups = 1
phase_number in_group = 2
phase_number in_account = 3
phase_number between_accounts = 4
phase_number finished = 5

abbrev pub flag : Bool → ℕ
flag true = 1
flag false = 0

-- a state's numbers
abbrev pub numbers_of : Writer → Bai2Writer
numbers_of w =
    record {
      size = w.size;
      phase = phase_number w.phase;
      items = flag w.items;
      file = figures_of w.file;
      group = figures_of w.group;
      account = figures_of w.account;
    }

-- the phase of a number
unfoldable pub phase_of : ℕ → Phase
phase_of n =
    cond (eqb n 0) fresh
    (cond (eqb n 1) between_groups
    (cond (eqb n 2) in_group
    (cond (eqb n 3) in_account
    (cond (eqb n 4) between_accounts finished))))

-- phase and items are numbers that a state has
unfoldable pub known : Bai2Writer → Bool
known w = leb w.phase 5 && leb w.items 1

-- the bytes so far; one more than any file has where the numbers are no state's, so that the call is out of turn
unfoldable pub size_of : Bai2Writer → ℕ
size_of w = cond (known w) w.size (longest_file + 1)

-- the state that the numbers say
unfoldable pub state_of : Bai2Writer → Writer
state_of w =
    record {
      phase = phase_of w.phase;
      items = eqb w.items 1;
      size = size_of w;
      file = summary_of w.file;
      group = summary_of w.group;
      account = summary_of w.account;
    }

-- ---- the answer

-- the numbers after a call: accepted, those of the new state; refused, those given
unfoldable pub numbers_after : Bai2Writer → Written → Bai2Writer
numbers_after given r = cond (eqb r.refusal.number 0) (numbers_of r.writer) given

abbrev pub answer_of : Bai2Writer → Written → Bai2Written
answer_of given r = record { number = r.refusal.number; place = r.refusal.place; length = r.len; writer = numbers_after given r }

-- an answer, and what the output slice holds
pub record Reply : Type 0 where
  pub answer : Bai2Written
  pub output : Bytes

abbrev pub replied : Bai2Written → Bytes → Reply
replied a out = record { answer = a; output = out }

-- what a call answers and leaves in the output slice
unfoldable pub reply_to : Bai2Writer → Call → Bytes → Reply
reply_to given call before =
    let r = write (state_of given) call before in
    replied (answer_of given r) r.output

-- ---- calls one after the other

-- the numbers and the output slice between two calls
pub record Sitting : Type 0 where
  pub writer : Bai2Writer
  pub output : Bytes

-- a call with the numbers and the slice that the one before left
unfoldable pub asked : Sitting → Call → Sitting
asked s call =
    let r = reply_to s.writer call s.output in
    record { writer = r.answer.writer; output = r.output }

unfoldable pub asked_all : Sitting → List Call → Sitting
asked_all s [] = s
asked_all s (c ∷ cs) = asked_all (asked s c) cs

-- a session of the rules, in numbers
abbrev pub in_numbers : Session → Sitting
in_numbers s = record { writer = numbers_of s.writer; output = s.output }

-- ---- amounts, counts and items: none where the number that says so is 0

unfoldable pub or_none : {A : Type 0} → ℕ → A → Option A
or_none given a = cond (eqb given 0) none (some a)

abbrev pub signed_of : ℤ → Signed
signed_of (pos n) = record { negative = false; magnitude = n }
signed_of (negsuc n) = record { negative = true; magnitude = n + 1 }

abbrev pub amount_asked : ℕ → ℤ → Option Signed
amount_asked given n = or_none given (signed_of n)

abbrev pub items_asked : ℕ → ℕ → Option ℕ
items_asked given n = or_none given n

abbrev pub item_of : Bytes → ℕ → ℤ → ℕ → ℕ → Item
item_of type amount_given amount items_given count =
    record { type = type; amount = amount_asked amount_given amount; item_count = items_asked items_given count }

abbrev pub item_asked : ℕ → Item → Option Item
item_asked given i = or_none given i
