-- Document 01, "The writer": its state, the line that each call writes, and its refusals: 19, 20, 10, 18, 15. Assumes nothing.
use Rattle.std.specs.Prelude.{ℕ, ◌+◌, Bool, true, false, cond, not, ◌&&◌, List, [], ◌∷◌, ◌++◌, leb, length, take, drop}
use Rattle.std.proofs.Math.Option.{Option, none, some}
use Rattle.rules.specs.Bytes.{Bytes, bytes, LF, comma, slash, allowed, all, is_empty, clean, starts_with, same_bytes, trimmed}
use Rattle.rules.specs.Numbers.{Signed, Sum, zero_sum, ◌⊕◌, as_sum, decimal, total_bytes, magnitudes}
use Rattle.rules.specs.Limits.{most, longest_file, longest_name}
use Rattle.rules.specs.Outcome.{Refusal, not_refused, Outcome, refused, refuse, fine, ◌>>=◌, ◌>>◌, check}
use Rattle.rules.specs.Lines.{Code, file_header, group_header, account_header, detail, account_trailer, group_trailer, file_trailer, continuation, code_bytes}
use Rattle.rules.specs.Grammar.{Kind, further_type, detail_type, bank_reference, customer_reference, same_kind, next_kind, fields_of, Judged, bad, good, take_next}
use Rattle.rules.specs.Totals.{Summary, no_summary, ◌⊞◌, adding}
use Rattle.rules.specs.Combine.{has_room}
use Rattle.rules.specs.Order.{may_follow, among, group_after, account_after}

-- ---- the calls

-- a type, an amount or none, an item count or none
pub record Item : Type 0 where
  pub type : Bytes
  pub amount : Option Signed
  pub item_count : Option ℕ

-- amounts and item counts come as numbers or none, all else as bytes
pub data Call : Type 0 where
  write_header : (sender receiver date time file_number : Bytes) → Call
  write_group : (ultimate_receiver originator status date time currency modifier : Bytes) → Call
  write_account : (number currency : Bytes) → Option Item → Call
  write_item : Item → Call
  write_detail : (type : Bytes) → (amount : Option Signed) → (bank_reference customer_reference text : Bytes) → Call
  end_account end_group end_file : Call

-- ---- the state: no bytes; those written so far stand in the caller's slice

-- what was written last: nothing; 01 or 98; 02; 03, an 88 or 16; 49; 99
pub data Phase : Type 0 where
  fresh between_groups in_group in_account between_accounts finished : Phase

-- the codes that may come next
abbrev pub expected_in : Phase → List Code
expected_in fresh = file_header ∷ []
expected_in between_groups = may_follow group_trailer
expected_in in_group = may_follow group_header
expected_in in_account = may_follow detail
expected_in between_accounts = may_follow account_trailer
expected_in finished = may_follow file_trailer

abbrev pub phase_after : Code → Phase
phase_after file_header = between_groups
phase_after group_header = in_group
phase_after account_header = in_account
phase_after detail = in_account
phase_after continuation = in_account
phase_after account_trailer = between_accounts
phase_after group_trailer = between_groups
phase_after file_trailer = finished

-- items: a further item may come; size: how many bytes stand so far; and the summaries as the reader keeps them
pub record Writer : Type 0 where
  pub phase : Phase
  pub items : Bool
  pub size : ℕ
  pub file : Summary
  pub group : Summary
  pub account : Summary

abbrev pub fresh_writer : Writer
fresh_writer = record { phase = fresh; items = false; size = 0; file = no_summary; group = no_summary; account = no_summary }

-- no count is larger than n
abbrev pub counted : ℕ → Summary → Bool
counted n s = leb s.groups n && (leb s.accounts n && (leb s.details n && leb s.records n))

-- the numbers are ones that calls can have made, as far as the next call's numbers depend on it; a made-up state that isn't sound is out of turn
unfoldable pub sound : Writer → Bool
sound w =
    leb w.size longest_file
    && (leb (magnitudes w.file.sum) most
    && (leb (magnitudes w.group.sum) (magnitudes w.file.sum)
    && (leb (magnitudes w.account.sum) (magnitudes w.file.sum)
    && (counted w.size w.file && (counted w.size w.group && counted w.size w.account)))))

-- ---- the line that a call writes

-- its code, the kinds of its fields, the fields, the text of a 16, and the amount that it adds
pub record Given : Type 0 where
  pub code : Code
  pub kinds : List Kind
  pub fields : List Bytes
  pub text : Option Bytes
  pub amount : Option Signed

abbrev pub amount_bytes : Option Signed → Bytes
amount_bytes none = []
amount_bytes (some a) = total_bytes (as_sum a)

abbrev pub item_count_bytes : Option ℕ → Bytes
item_count_bytes none = []
item_count_bytes (some n) = decimal n

-- a call without text or amount
abbrev pub plain : Code → List Bytes → Given
plain c fs = record { code = c; kinds = fields_of c; fields = fs; text = none; amount = none }

-- type, amount, item count, funds
abbrev pub item_fields : Item → List Bytes
item_fields i = i.type ∷ amount_bytes i.amount ∷ item_count_bytes i.item_count ∷ [] ∷ []

-- a trailer's fields: the total, the count of accounts or groups, and the record count, itself included
abbrev pub trailer_fields : Summary → ℕ → List Bytes
trailer_fields s n = total_bytes s.sum ∷ decimal n ∷ decimal (s.records + 1) ∷ []

-- L, block size and all funds stay empty; the version is 2; the trailers' numbers are the writer's own
unfoldable pub given : Writer → Call → Given
given w (write_header s r d t n) = plain file_header (s ∷ r ∷ d ∷ t ∷ n ∷ [] ∷ [] ∷ bytes "2" ∷ [])
given w (write_group u o s d t c m) = plain group_header (u ∷ o ∷ s ∷ d ∷ t ∷ c ∷ m ∷ [])
given w (write_account n c none) = plain account_header (n ∷ c ∷ [] ∷ [] ∷ [] ∷ [] ∷ [])
given w (write_account n c (some i)) = record { code = account_header; kinds = fields_of account_header; fields = n ∷ c ∷ item_fields i; text = none; amount = i.amount }
given w (write_item i) = record { code = continuation; kinds = further_type ∷ []; fields = item_fields i; text = none; amount = i.amount }
given w (write_detail y a b c t) =
    record { code = detail; kinds = detail_type ∷ bank_reference ∷ customer_reference ∷ []; fields = y ∷ amount_bytes a ∷ [] ∷ b ∷ c ∷ []; text = some t; amount = a }
given w end_account = plain account_trailer (total_bytes w.account.sum ∷ decimal (w.account.records + 1) ∷ [])
given w end_group = plain group_trailer (trailer_fields w.group w.group.accounts)
given w end_file = plain file_trailer (trailer_fields w.file w.file.groups)

-- the fields with a comma after each but the last
unfoldable pub with_commas : List Bytes → Bytes
with_commas [] = []
with_commas (f ∷ []) = f
with_commas (f ∷ g ∷ fs) = f ++ (comma ∷ with_commas (g ∷ fs))

-- what ends the line: a slash; or a comma and the text, an empty one as "/"
abbrev pub line_rest : Option Bytes → Bytes
line_rest none = slash ∷ []
line_rest (some t) = comma ∷ cond (is_empty t) (slash ∷ []) t

-- the line without its end, and with it
unfoldable pub body_of : Given → Bytes
body_of g = code_bytes g.code ++ (with_commas g.fields ++ line_rest g.text)

unfoldable pub line_of : Given → Bytes
line_of g = body_of g ++ (LF ∷ [])

-- ---- 19

-- a line of this code may come; a further item only after an account's item or a further one
abbrev pub in_turn : Code → Phase → Bool → Bool
in_turn file_header p items = among file_header (expected_in p)
in_turn group_header p items = among group_header (expected_in p)
in_turn account_header p items = among account_header (expected_in p)
in_turn detail p items = among detail (expected_in p)
in_turn account_trailer p items = among account_trailer (expected_in p)
in_turn group_trailer p items = among group_trailer (expected_in p)
in_turn file_trailer p items = among file_trailer (expected_in p)
in_turn continuation p items = among detail (expected_in p) && items

-- ---- 20

-- the kinds wanted after a field that the reader takes; 20 where it would refuse it
abbrev pub or_twenty : Judged → Outcome (List Kind)
or_twenty (bad n) = refuse 20 0
or_twenty (good next) = fine next

-- the kinds wanted after these fields
unfoldable pub kinds_after : List Kind → List Bytes → Outcome (List Kind)
kinds_after ks [] = fine ks
kinds_after ks (f ∷ fs) = check (clean f) 20 0 >>= λ _. or_twenty (take_next ks f) >>= λ next. kinds_after next fs

-- 0 to 76 bytes, none not allowed, no slash first, no trailing blank
unfoldable pub good_text : Bytes → Bool
good_text t = leb (length t) longest_name && (all allowed t && (not (starts_with slash t) && same_bytes t (trimmed t)))

abbrev pub good_text_or_none : Option Bytes → Bool
good_text_or_none none = true
good_text_or_none (some t) = good_text t

-- ---- what the line adds, and the order of refusals

abbrev pub sum_given : Option Signed → Sum
sum_given none = zero_sum
sum_given (some a) = as_sum a

unfoldable pub of_given : Given → Summary
of_given g = adding g.code (sum_given g.amount) 1

-- a further item may come after an item
abbrev pub wants_item : List Kind → Bool
wants_item ks = same_kind (next_kind ks) further_type

-- the line, and the state after it
pub record Entry : Type 0 where
  pub line : Bytes
  pub next : Writer

unfoldable pub entry_of : Writer → Given → List Kind → Entry
entry_of w g left =
    let this = of_given g in
    record {
      line = line_of g;
      next =
          record {
            phase = phase_after g.code;
            items = wants_item left;
            size = w.size + length (line_of g);
            file = w.file ⊞ this;
            group = group_after g.code w.group this;
            account = account_after g.code w.account this;
          };
    }

-- 10, 18, 15; the result is all bytes so far with this line's; room is the length of the output slice
unfoldable pub line_fits : Writer → Given → ℕ → Outcome (Unit {0})
line_fits w g room = do
  check (leb (magnitudes (w.file.sum ⊕ sum_given g.amount)) most) 10 0
  has_room (w.size + length (line_of g)) room

-- 19, 20, 10, 18, 15
unfoldable pub write_line : Writer → Given → ℕ → Outcome Entry
write_line w g room = do
  check (sound w && in_turn g.code w.phase w.items) 19 0
  left ← kinds_after g.kinds g.fields
  check (good_text_or_none g.text) 20 0
  line_fits w g room
  fine (entry_of w g left)

-- ---- the call

-- what a call answers: its refusal, 0 and 0 where there is none; the length of all bytes so far, or 0; the state: where refused the one given;
-- and the output slice: accepted, the line stands after the bytes so far, and the rest stays; refused, all of it stays
pub record Written : Type 0 where
  pub refusal : Refusal
  pub len : ℕ
  pub writer : Writer
  pub output : Bytes

abbrev pub placed : ℕ → Bytes → Bytes → Bytes
placed at line before = take at before ++ (line ++ drop (at + length line) before)

unfoldable pub written_by : Writer → Outcome Entry → Bytes → Written
written_by w (refused why) before = record { refusal = why; len = 0; writer = w; output = before }
written_by w (fine e) before = record { refusal = not_refused; len = e.next.size; writer = e.next; output = placed w.size e.line before }

unfoldable pub write : Writer → Call → Bytes → Written
write w call before = written_by w (write_line w (given w call) (length before)) before
