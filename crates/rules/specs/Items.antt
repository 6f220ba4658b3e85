-- Document 01, "03: account number, currency, one or more items of type, amount, item count, funds": an account's items, and the call that hands one out (document 02, 2026-03). Assumes nothing.
use Rattle.std.specs.Prelude.{ℕ, zero, suc, Bool, cond, not, ◌&&◌, ◌||◌, List, [], ◌∷◌}
use Rattle.std.proofs.Math.Option.{Option, none, some}
use Rattle.rules.specs.Bytes.{Bytes, is_empty}
use Rattle.rules.specs.Numbers.{number}
use Rattle.rules.specs.Amounts.{Amount, amount_in}
use Rattle.rules.specs.Outcome.{Outcome, refuse, fine, ◌>>=◌}
use Rattle.rules.specs.Lines.{account_header}
use Rattle.rules.specs.Grammar.{first_type, further_type, same_kind}
use Rattle.rules.specs.Records.{Field}
use Rattle.rules.specs.Parts.{first_fields, account_at}

-- an item as it is read: its type, its amount as it was given, and its item count, if any
pub record AccountItem : Type 0 where
  pub type : ℕ
  pub amount : Amount
  pub count : Option ℕ

-- the field begins an item; the empty type of the sole empty item begins none
abbrev pub begins_item : Field → Bool
begins_item f = (same_kind first_type f.kind || same_kind further_type f.kind) && not (is_empty f.bytes)

-- the bytes of the first of some fields, and of the second; none where there is no such field
unfoldable pub first_bytes : List Field → Bytes
first_bytes [] = []
first_bytes (f ∷ fs) = f.bytes

unfoldable pub second_bytes : List Field → Bytes
second_bytes [] = []
second_bytes (f ∷ fs) = first_bytes fs

-- a number, if one is given
unfoldable pub number_in : Bytes → Option ℕ
number_in [] = none
number_in (b ∷ bs) = some (number (b ∷ bs))

-- the item of this type, before these fields: the first is its amount, the second its item count
unfoldable pub item_before : Field → List Field → AccountItem
item_before f fs = record { type = number f.bytes; amount = amount_in (first_bytes fs); count = number_in (second_bytes fs) }

-- the items of a 03 with these fields
unfoldable pub items_in : List Field → List AccountItem
items_in [] = []
items_in (f ∷ fs) = cond (begins_item f) (item_before f fs ∷ items_in fs) (items_in fs)

-- the item of this number, from 0; 17 where there is none
unfoldable pub item_from : List AccountItem → ℕ → Outcome AccountItem
item_from [] n = refuse 17 0
item_from (i ∷ is) zero = fine i
item_from (i ∷ is) (suc n) = item_from is n

-- order: reader's refusal, 17
unfoldable pub item_at : Bytes → ℕ → ℕ → ℕ → Outcome AccountItem
item_at file g a n = account_at file g a >>= λ account. item_from (items_in (first_fields account_header account.records)) n
