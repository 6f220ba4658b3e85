-- The kinds of field that a `Want` stands for, and what a field is kept for. Assumes nothing.
use Rattle.std.specs.Prelude.{ℕ, zero, suc, Bool, cond, ◌||◌, List, [], ◌∷◌, ◌++◌, eqb, drop}
use Rattle.rules.specs.Lines as lines
use Rattle.rules.specs.Grammar.{
  Kind,
  same_kind,
  nothing,
  physical_length,
  status_amount,
  amount,
  item_count,
  funds,
  further_type,
  further_text,
  split_amount,
  date,
  time_or_none,
  pair_count,
  days,
  day_amount,
  total,
  count,
  records,
  pairs,
  fields_of,
}
use Rattle.read_wanted.specs.declared.want.After.{After}
use Rattle.read_wanted.specs.declared.want.After.TheVariants.{FurtherItem, References}
use Rattle.read_wanted.specs.declared.want.Keep.{Keep}
use Rattle.read_wanted.specs.declared.want.Keep.TheVariants as keeps
use Rattle.read_wanted.specs.declared.want.Want.{Want}
use Rattle.read_wanted.specs.declared.want.Want.TheVariants as want

-- the fields that a record begins with, less the first n
abbrev from : ℕ → lines.Code → List Kind
from n code = drop n (fields_of code)

-- a detail's references and text
unfoldable pub references : List Kind
references = from 1 lines.detail

-- what comes after funds
unfoldable pub wanted_after : After → List Kind
wanted_after FurtherItem = further_type ∷ []
wanted_after References = references

-- so many amounts of S
unfoldable pub splits : ℕ → List Kind
splits zero = []
splits (suc n) = split_amount ∷ splits n

-- the kinds wanted from the next field on: the list that `take_next` (rules/specs/Grammar.antt) takes and hands on, as one value
unfoldable pub wanted_of : Want → List Kind
wanted_of want.Sender = from 0 lines.file_header
wanted_of want.Receiver = from 1 lines.file_header
wanted_of want.FileDate = from 2 lines.file_header
wanted_of want.FileTime = from 3 lines.file_header
wanted_of want.FileNumber = from 4 lines.file_header
wanted_of want.Length = from 5 lines.file_header
wanted_of want.BlockSize = from 6 lines.file_header
wanted_of want.Version = from 7 lines.file_header
wanted_of want.UltimateReceiver = from 0 lines.group_header
wanted_of want.Originator = from 1 lines.group_header
wanted_of want.GroupStatus = from 2 lines.group_header
wanted_of want.GroupDate = from 3 lines.group_header
wanted_of want.GroupTime = from 4 lines.group_header
wanted_of want.GroupCurrency = from 5 lines.group_header
wanted_of want.Modifier = from 6 lines.group_header
wanted_of want.Account = from 0 lines.account_header
wanted_of want.AccountCurrency = from 1 lines.account_header
wanted_of want.FirstType = from 2 lines.account_header
wanted_of want.EmptyAmount = nothing ∷ nothing ∷ nothing ∷ []
wanted_of want.EmptyCount = nothing ∷ nothing ∷ []
wanted_of want.EmptyFunds = nothing ∷ []
wanted_of want.StatusAmount = status_amount ∷ nothing ∷ nothing ∷ further_type ∷ []
wanted_of want.StatusCount = nothing ∷ nothing ∷ further_type ∷ []
wanted_of want.StatusFunds = nothing ∷ further_type ∷ []
wanted_of want.ItemAmount = amount ∷ item_count ∷ funds ∷ further_type ∷ []
wanted_of want.ItemCount = item_count ∷ funds ∷ further_type ∷ []
wanted_of want.ItemFunds = funds ∷ further_type ∷ []
wanted_of want.FurtherType = further_type ∷ []
wanted_of want.DetailType = from 0 lines.detail
wanted_of want.DetailAmount = amount ∷ funds ∷ references
wanted_of want.DetailFunds = funds ∷ references
wanted_of want.NoAmount = nothing ∷ nothing ∷ references
wanted_of want.NoFunds = nothing ∷ references
wanted_of want.BankReference = references
wanted_of want.CustomerReference = from 2 lines.detail
wanted_of want.Text = from 3 lines.detail
wanted_of want.FurtherText = further_text ∷ []
wanted_of (want.SplitAmount after n) = split_amount ∷ splits n ++ wanted_after after
wanted_of (want.ValueDate after) = date ∷ time_or_none ∷ wanted_after after
wanted_of (want.ValueTime after) = time_or_none ∷ wanted_after after
wanted_of (want.PairCount after) = pair_count ∷ wanted_after after
wanted_of (want.Days after n) = days ∷ day_amount ∷ pairs n ++ wanted_after after
wanted_of (want.DayAmount after n) = day_amount ∷ pairs n ++ wanted_after after
wanted_of want.AccountTotal = from 0 lines.account_trailer
wanted_of want.Total = from 0 lines.group_trailer
wanted_of want.Count = from 1 lines.group_trailer
wanted_of want.Records = from 2 lines.group_trailer
wanted_of want.End = []

-- what a field is kept for: for `amount_of` and the checks of a trailer (rules/specs/Totals.antt), or for `limit_given` (rules/specs/Verdict.antt)
pub data Purpose : Type 0 where
  for_amount for_total for_count for_records for_length for_nothing : Purpose

-- a number for each purpose, so that two can be compared
abbrev pub purpose_number : Purpose → ℕ
purpose_number for_amount = 1
purpose_number for_total = 2
purpose_number for_count = 3
purpose_number for_records = 4
purpose_number for_length = 5
purpose_number for_nothing = 6

-- the same purpose
abbrev pub same_purpose : Purpose → Purpose → Bool
same_purpose u v = eqb (purpose_number u) (purpose_number v)

-- of a field of this kind
unfoldable pub purpose : Kind → Purpose
purpose k =
    cond (same_kind k amount || same_kind k status_amount) for_amount
    (cond (same_kind total k) for_total
    (cond (same_kind count k) for_count
    (cond (same_kind records k) for_records
    (cond (same_kind physical_length k) for_length
    for_nothing))))

-- what a `Keep` stands for
abbrev pub keep_meant : Keep → Purpose
keep_meant keeps.Amount = for_amount
keep_meant keeps.Total = for_total
keep_meant keeps.Count = for_count
keep_meant keeps.Records = for_records
keep_meant keeps.Length = for_length
keep_meant keeps.Nothing = for_nothing
