-- Document 01, "Fields": the fields of each record, and what each of them may be. Assumes nothing.
use Rattle.std.specs.Prelude.{ℕ, zero, suc, Bool, true, false, cond, not, ◌&&◌, ◌||◌, List, [], ◌∷◌, ◌++◌, leb, eqb, length}
use Rattle.rules.specs.Limits.{longest_name, longest_line}
use Rattle.rules.specs.Bytes.{Bytes, letter, is_empty, between, all, starts_with, one_of, just, slash, minus}
use Rattle.rules.specs.Numbers.{digits, number, without_sign}
use Rattle.rules.specs.Dates.{is_date, is_time}
use Rattle.rules.specs.TypeCodes.{Class, status, summary_only, summary_or_detail, non_monetary, unknown, type_class}
use Rattle.rules.specs.Lines.{Code, file_header, group_header, account_header, detail, account_trailer, group_trailer, file_trailer, continuation}

-- ---- the kinds of field

-- name: a sender, receiver, originator or account number; count: of accounts or groups, records: of records, in a trailer; nothing: a field that must be empty
pub data Kind : Type 0 where
  name reference ultimate_receiver : Kind
  date time time_or_none : Kind
  file_number physical_length block_size version : Kind
  group_status currency modifier : Kind
  first_type further_type status_amount amount item_count funds : Kind
  detail_type text further_text : Kind
  split_amount pair_count days day_amount : Kind
  total count records : Kind
  nothing : Kind

-- ---- the fields of a record

-- the fields that document 01 names, by their kinds
abbrev pub sender : Kind
sender = name

abbrev pub receiver : Kind
receiver = name

abbrev pub originator : Kind
originator = name

abbrev pub account_number : Kind
account_number = name

abbrev pub bank_reference : Kind
bank_reference = reference

abbrev pub customer_reference : Kind
customer_reference = reference

-- the fields that are wanted at a record's start; `judged`, below, puts those of items, details and funds in between. A record of code 88 alone is out of order, and has none.
-- 01: sender, receiver, date, time, file number, physical length L, block size, version.
-- 02: ultimate receiver, originator, status, date, time, currency, modifier.
-- 03: account number, currency, one or more items of type, amount, item count, funds.
-- 16: type, amount, funds, bank reference, customer reference, text.
-- 49 gives total, records; 98 total, accounts, records; 99 total, groups, records.
unfoldable pub fields_of : Code → List Kind
fields_of file_header = sender ∷ receiver ∷ date ∷ time ∷ file_number ∷ physical_length ∷ block_size ∷ version ∷ []
fields_of group_header = ultimate_receiver ∷ originator ∷ group_status ∷ date ∷ time_or_none ∷ currency ∷ modifier ∷ []
fields_of account_header = account_number ∷ currency ∷ first_type ∷ []
fields_of detail = detail_type ∷ bank_reference ∷ customer_reference ∷ text ∷ []
fields_of account_trailer = total ∷ records ∷ []
fields_of group_trailer = total ∷ count ∷ records ∷ []
fields_of file_trailer = total ∷ count ∷ records ∷ []
fields_of continuation = []

-- ---- what a field may be

-- empty or three of A to Z
unfoldable pub is_currency : Bytes → Bool
is_currency bs = is_empty bs || (eqb (length bs) 3 && all (between (letter "A") (letter "Z")) bs)

-- 1 to 18 digits, with at most a plus
unfoldable pub is_unsigned : Bytes → Bool
is_unsigned bs = digits 1 18 (without_sign bs) && not (starts_with minus bs)

-- 1 to 18 digits, with at most a sign
unfoldable pub is_signed : Bytes → Bool
is_signed bs = digits 1 18 (without_sign bs)

-- 1 to 4 digits, 48 to 4096
unfoldable pub is_length : Bytes → Bool
is_length bs = digits 1 4 bs && between 48 longest_line (number bs)

-- a field is refused by this number; or it is good, and these kinds are wanted next
pub data Judged : Type 0 where
  bad : (number : ℕ) → Judged
  good : List Kind → Judged

abbrev pub fits : Bool → Judged
fits true = good []
fits false = bad 8

-- a type in 03 adds its amount, item count and funds; a status item has an empty count and funds; a further item may follow
abbrev pub item_of : Class → Judged
item_of status = good (status_amount ∷ nothing ∷ nothing ∷ further_type ∷ [])
item_of summary_only = good (amount ∷ item_count ∷ funds ∷ further_type ∷ [])
item_of summary_or_detail = good (amount ∷ item_count ∷ funds ∷ further_type ∷ [])
item_of non_monetary = bad 8
item_of unknown = bad 8

-- a type in 16 adds its amount and funds; 890 with both empty
abbrev pub detail_of : Class → Judged
detail_of status = bad 8
detail_of summary_only = bad 8
detail_of summary_or_detail = good (amount ∷ funds ∷ [])
detail_of non_monetary = good (nothing ∷ nothing ∷ [])
detail_of unknown = bad 8

-- empty, 0, 1, 2 or Z; S and three amounts; V, a date and a time; D, a number X and X pairs
unfoldable pub funds_of : Bytes → Judged
funds_of bs =
    cond (is_empty bs || one_of (letter "0") (letter "2") bs || just (letter "Z") bs) (good [])
    (cond (just (letter "S") bs) (good (split_amount ∷ split_amount ∷ split_amount ∷ []))
    (cond (just (letter "V") bs) (good (date ∷ time_or_none ∷ []))
    (cond (just (letter "D") bs) (good (pair_count ∷ []))
    (bad 8))))

-- X pairs of days and amount
unfoldable pub pairs : ℕ → List Kind
pairs zero = []
pairs (suc x) = days ∷ day_amount ∷ pairs x

-- X, 1 to 3 digits, 1 to 999 (no three digits are more)
unfoldable pub pairs_of : Bytes → Judged
pairs_of bs = cond (digits 1 3 bs && leb 1 (number bs)) (good (pairs (number bs))) (bad 8)

-- a text's piece isn't empty and doesn't begin with a slash
unfoldable pub piece_of : Bytes → Judged
piece_of bs = cond (not (is_empty bs) && not (starts_with slash bs)) (good (further_text ∷ [])) (bad 7)

-- a field of this kind with these bytes; of a text, the line from its place on, less trailing blanks
unfoldable pub judged : Kind → Bytes → Judged
-- names: 1 to 76 bytes; the 02's ultimate receiver and both references of a 16: 0 to 76
judged name bs = fits (between 1 longest_name (length bs))
judged reference bs = fits (leb (length bs) longest_name)
judged ultimate_receiver bs = fits (leb (length bs) longest_name)
-- only the 01 must give a time
judged date bs = fits (is_date bs)
judged time bs = fits (is_time bs)
judged time_or_none bs = fits (is_empty bs || is_time bs)
-- 01: file number 1 to 9 digits; L empty, or 48 to 4096; block size empty or 1 to 9 digits; version "2", any other is 9
judged file_number bs = fits (digits 1 9 bs)
judged physical_length bs = fits (is_empty bs || is_length bs)
judged block_size bs = fits (digits 0 9 bs)
judged version bs = cond (just (letter "2") bs) (good []) (bad 9)
-- 02: status 1 to 4; modifier empty or 1 to 4
judged group_status bs = fits (one_of (letter "1") (letter "4") bs)
judged currency bs = fits (is_currency bs)
judged modifier bs = fits (is_empty bs || one_of (letter "1") (letter "4") bs)
-- 03: an item with all four empty is allowed only as the sole one: any field after it is one too many; from the second item on, an empty type is itself wrong
judged first_type bs = cond (is_empty bs) (good (nothing ∷ nothing ∷ nothing ∷ [])) (item_of (type_class bs))
judged further_type bs = item_of (type_class bs)
-- a status amount may carry + or -, others only +; item count: empty or 1 to 9 digits
judged status_amount bs = fits (is_empty bs || is_signed bs)
judged amount bs = fits (is_empty bs || is_unsigned bs)
judged item_count bs = fits (digits 0 9 bs)
judged funds bs = funds_of bs
-- 16: "/" means no text, anything else is one piece; each later 88 is a further piece
judged detail_type bs = detail_of (type_class bs)
judged text bs = cond (just slash bs) (good []) (piece_of bs)
judged further_text bs = piece_of bs
-- funds: S amounts may be empty, D amounts not; these amounts are 1 to 18 digits without sign; days 1 to 3 digits
judged split_amount bs = fits (digits 0 18 bs)
judged pair_count bs = pairs_of bs
judged days bs = fits (digits 1 3 bs)
judged day_amount bs = fits (digits 1 18 bs)
-- trailer totals: optional sign, 1 to 18 digits; counts: 1 to 9 digits
judged total bs = fits (is_signed bs)
judged count bs = fits (digits 1 9 bs)
judged records bs = fits (digits 1 9 bs)
judged nothing bs = fits (is_empty bs)

-- ---- a field where some kinds are wanted

-- what a good field adds stands before the kinds that were wanted after it
unfoldable pub and_then : Judged → List Kind → Judged
and_then (bad n) ks = bad n
and_then (good new) ks = good (new ++ ks)

-- one too many, or judged as the first of them
unfoldable pub take_next : List Kind → Bytes → Judged
take_next [] bs = bad 8
take_next (k ∷ ks) bs = and_then (judged k bs) ks

-- the kind of the next field; where none is wanted, it must not be there
abbrev pub next_kind : List Kind → Kind
next_kind [] = nothing
next_kind (k ∷ ks) = k

-- ---- comparing kinds

-- a number for each kind, so that two can be compared
abbrev pub kind_number : Kind → ℕ
kind_number name = 1
kind_number reference = 2
kind_number ultimate_receiver = 3
kind_number date = 4
kind_number time = 5
kind_number time_or_none = 6
kind_number file_number = 7
kind_number physical_length = 8
kind_number block_size = 9
kind_number version = 10
kind_number group_status = 11
kind_number currency = 12
kind_number modifier = 13
kind_number first_type = 14
kind_number further_type = 15
kind_number status_amount = 16
kind_number amount = 17
kind_number item_count = 18
kind_number funds = 19
kind_number detail_type = 20
kind_number text = 21
kind_number further_text = 22
kind_number split_amount = 23
kind_number pair_count = 24
kind_number days = 25
kind_number day_amount = 26
kind_number total = 27
kind_number count = 28
kind_number records = 29
kind_number nothing = 30

abbrev pub same_kind : Kind → Kind → Bool
same_kind k j = eqb (kind_number k) (kind_number j)

-- a text takes the line from its place on
abbrev pub is_text : Kind → Bool
is_text k = same_kind k text || same_kind k further_text

-- what may be left out at a record's end: a further item, a further piece
abbrev pub may_lack : List Kind → Bool
may_lack [] = true
may_lack (k ∷ ks) = same_kind k further_type || same_kind k further_text
