-- An item of a 03, sought among the fields that the walk over it yields. Assumes nothing.
use Rattle.std.specs.Prelude as prelude
use Rattle.std.specs.Prelude.{ℕ, zero, suc, ◌+◌, ◌≤◌, ◌<◌, ◌≡◌, Bool, true, false, cond, List, [], ◌∷◌, length, take, drop}
use Rattle.std.proofs.Math.Option.{Option, none, some}
use Rattle.rules.specs.Bytes.{Bytes}
use Rattle.rules.specs.Outcome.{Outcome, refuse, fine}
use Rattle.rules.specs.Lines.{lines_of, account_header}
use Rattle.rules.specs.Grammar.{fields_of}
use Rattle.rules.specs.Records.{Field}
use Rattle.rules.specs.Items.{AccountItem, begins_item, first_bytes, second_bytes, item_from}
use Rattle.base_digits.specs.NumbersRead.{value_of}
use Rattle.base_amounts.specs.AmountsRead.{amount_meant, amount_read}
use Rattle.read_wanted.specs.Wants.{wanted_of}
use Rattle.find_next.specs.FieldTrace.{Trace, stops, ends, yields, field_at, trace_lines}
use Rattle.find_next.specs.CursorMeaning.{own_lines, trace_of, Inside, left_of}
use Rattle.base_quantities.specs.declared.Count.{Count}
use Rattle.find_next.specs.declared.Cursor.{Cursor}
use Rattle.find_next.specs.declared.FieldStep.{FieldStep}
use Rattle.find_item.specs.declared.Item.{Item}

-- ---- items as they are read

-- the fields that are yielded up to the record's end or a refusal; stands for the fields that `walk_record` gives (rules/specs/Records.antt), joined by `yielded-is`
-- (proofs/ItemLaws.antt)
unfoldable pub yielded : Trace → List Field
yielded (stops why) = []
yielded ends = []
yielded (yields f t) = f ∷ yielded t

-- a number, if one is given; stands for `number_in` (rules/specs/Items.antt)
unfoldable pub count_read : Bytes → Option ℕ
count_read [] = none
count_read (b ∷ bs) = some (value_of (b ∷ bs))

-- the item of this type, before these fields, and the items among fields; they stand for `item_before` and `items_in` (rules/specs/Items.antt), joined by `items-read`
-- (part_items/proofs/ItemsRead.antt)
unfoldable pub item_read : Bytes → List Field → AccountItem
item_read type fs = record { type = value_of type; amount = amount_read (first_bytes fs); count = count_read (second_bytes fs) }

unfoldable pub items_read : List Field → List AccountItem
items_read [] = []
items_read (f ∷ fs) = cond (begins_item f) (item_read f.bytes fs ∷ items_read fs) (items_read fs)

-- the item of number n among those of the 03 in front of these bytes
abbrev pub item_sought : Bytes → ℕ → Outcome AccountItem
item_sought rec n = item_from (items_read (yielded (trace_lines 0 (fields_of account_header) 0 (own_lines 1 0 (lines_of rec))))) n

-- ---- the answers of the code

abbrev pub count_meant : prelude.Option Count → Option ℕ
count_meant prelude.None = none
count_meant (prelude.Some n) = some n.0

abbrev pub found_meant : prelude.Option Item → Outcome AccountItem
found_meant prelude.None = refuse 17 0
found_meant (prelude.Some i) = fine (record { type = i.type_code; amount = amount_meant i.amount; count = count_meant i.count })

-- a field, by whether it begins an item, where so many items are still to be passed: how many are after it, or none where it begins the one sought
unfoldable pub met_by : Bool → ℕ → prelude.Option ℕ
met_by true zero = prelude.None
met_by true (suc n) = prelude.Some n
met_by false n = prelude.Some n

-- the fields that are still ahead of a walk over the 03
abbrev pub ahead : Bytes → Cursor → List Field
ahead rec c = yielded (trace_of rec 1 c)

-- a field's bytes
abbrev pub bytes_in : Bytes → FieldStep → Bytes
bytes_in rec t = take t.length (drop t.start.0 rec)

-- the next field of a walk that stands inside the record, and nearer to its end after it; or none is ahead
abbrev pub Follows : Bytes → Cursor → prelude.Option FieldStep → Type 0
Follows rec c prelude.None = ahead rec c ≡ []
Follows rec c (prelude.Some t) =
    (ahead rec c ≡ field_at (wanted_of c.want) t.start.0 (bytes_in rec t) ∷ ahead rec t.after)
    × (Inside rec c → (t.start.0 + t.length ≤ length rec) × Inside rec t.after × (left_of rec t.after < left_of rec c))

-- it stands in the record, and so does the walk after it
pub record Stands (rec : Bytes) (t : FieldStep) : Type 0 where
  pub inside : t.start.0 + t.length ≤ length rec
  pub still : Inside rec t.after

-- the first field ahead, and what is ahead after it
pub record Takes (rec : Bytes) (c : Cursor) (t : FieldStep) : Type 0 where
  pub bytes : bytes_in rec t ≡ first_bytes (ahead rec c)
  pub rest : ahead rec t.after ≡ drop 1 (ahead rec c)
  pub stands : Stands rec t

-- the type of the item of number n, with its amount and item count ahead; or there is no such item
abbrev pub Seeks : Bytes → ℕ → prelude.Option FieldStep → Type 0
Seeks rec n prelude.None = item_sought rec n ≡ refuse 17 0
Seeks rec n (prelude.Some t) = (item_sought rec n ≡ fine (item_read (bytes_in rec t) (ahead rec t.after))) × Stands rec t
