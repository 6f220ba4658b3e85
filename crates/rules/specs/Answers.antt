-- Document 01, "A refusal returns its number and place, length 0, and an empty part where a part is asked": what the calls that hand out parts
-- answer; where refused, every other number is 0. What combine and split answer is in `Combine`, the writer in `Writer`. And what a call about a type
-- code answers, which nothing refuses. Assumes nothing.
use Rattle.std.specs.Prelude.{ℕ, Bool, true, false, [], length}
use Rattle.std.proofs.Math.Option.{Option, none}
use Rattle.rules.specs.Bytes.{Bytes}
use Rattle.rules.specs.Outcome.{Refusal, Outcome, or_else, refusal_of}
use Rattle.rules.specs.CodeList.{Level, is_status, is_summary, is_detail, Entry, unlisted, NA, CR, DB, entry_of}
use Rattle.rules.specs.Amounts.{Amount, empty, unsigned, with_plus, with_minus}
use Rattle.rules.specs.Parts.{Placed, group_at, account_at, part_bytes, Detail, detail_at}
use Rattle.rules.specs.Items.{AccountItem, item_at}

-- a part of the file: where it starts, and its length
pub record PartAnswer : Type 0 where
  pub refusal : Refusal
  pub start : ℕ
  pub len : ℕ

unfoldable pub part_answer : Outcome Placed → PartAnswer
part_answer o = record { refusal = refusal_of o; start = (or_else o (record { place = 0; records = [] })).place; len = length (part_bytes o) }

unfoldable pub group_part : Bytes → ℕ → PartAnswer
group_part file g = part_answer (group_at file g)

unfoldable pub account_part : Bytes → ℕ → ℕ → PartAnswer
account_part file g a = part_answer (account_at file g a)

-- a detail: its type, its amount as it was given, and where its first text piece starts, and its length
pub record DetailAnswer : Type 0 where
  pub refusal : Refusal
  pub type : ℕ
  pub amount : Amount
  pub text_start : ℕ
  pub text_length : ℕ

abbrev pub no_detail : Detail
no_detail = record { type = 0; amount = empty; text_place = 0; text_bytes = [] }

unfoldable pub detail_answer : Outcome Detail → DetailAnswer
detail_answer o =
    let d = or_else o no_detail in
    record {
      refusal = refusal_of o;
      type = d.type;
      amount = d.amount;
      text_start = d.text_place;
      text_length = length d.text_bytes;
    }

unfoldable pub detail_of_file : Bytes → ℕ → ℕ → ℕ → DetailAnswer
detail_of_file file g a d = detail_answer (detail_at file g a d)

-- an item of an account: its type, its amount as it was given, and its item count, if any
pub record ItemAnswer : Type 0 where
  pub refusal : Refusal
  pub type : ℕ
  pub amount : Amount
  pub count : Option ℕ

abbrev pub no_item : AccountItem
no_item = record { type = 0; amount = empty; count = none }

unfoldable pub item_answer : Outcome AccountItem → ItemAnswer
item_answer o = let i = or_else o no_item in record { refusal = refusal_of o; type = i.type; amount = i.amount; count = i.count }

unfoldable pub item_of_file : Bytes → ℕ → ℕ → ℕ → ItemAnswer
item_of_file file g a n = item_answer (item_at file g a n)

-- how an amount was given, as a number
abbrev pub form_number : Amount → ℕ
form_number empty = 0
form_number (unsigned n) = 1
form_number (with_plus n) = 2
form_number (with_minus n) = 3

-- what the uniform list says of a type code: 1 or 0 for listed, status, summary and detail; the side, 0 neither, 1 credit, 2 debit; unlisted, all 0
pub record CodeAnswer : Type 0 where
  pub listed : ℕ
  pub status : ℕ
  pub summary : ℕ
  pub detail : ℕ
  pub side : ℕ

abbrev pub one_if : Bool → ℕ
one_if true = 1
one_if false = 0

abbrev pub listed_as : Level → ℕ → CodeAnswer
listed_as l side = record { listed = 1; status = one_if (is_status l); summary = one_if (is_summary l); detail = one_if (is_detail l); side = side }

unfoldable pub code_figures : Entry → CodeAnswer
code_figures unlisted = record { listed = 0; status = 0; summary = 0; detail = 0; side = 0 }
code_figures (NA l) = listed_as l 0
code_figures (CR l) = listed_as l 1
code_figures (DB l) = listed_as l 2

unfoldable pub code_answer : ℕ → CodeAnswer
code_answer code = code_figures (entry_of code)
