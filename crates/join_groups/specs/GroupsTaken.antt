-- What is taken of any bytes for a name: the groups in front, cut by their codes alone; what they add; and what a slice holds of them. They stand for `groups_for`
-- (rules/specs/Split.antt) and `summary_of_all` (rules/specs/Combine.antt) of an accepted file's groups; joined by `taken-are` (proofs/GroupShapes.antt) and `takes`
-- (proofs/TakenLaws.antt). Assumes nothing.
use Rattle.std.specs.Prelude.{ℕ, ◌-◌, min, Bool, cond, ◌||◌, List, [], ◌∷◌, ◌++◌, leb, length, drop}
use Rattle.rules.specs.Bytes.{Bytes}
use Rattle.rules.specs.Numbers.{Sum}
use Rattle.rules.specs.Lines.{group_header, group_trailer, file_trailer, Record, record_bytes, file_records}
use Rattle.rules.specs.Parts.{heads}
use Rattle.rules.specs.Combine.{concat}
use Rattle.base_quantities.specs.QuantityMeanings.{units_of, wrapped_sum, most_records}
use Rattle.laws.specs.LawWords.{add_up, sum_up}
use Rattle.join_receivers.specs.NamedReceiver.{named}
use Rattle.join_groups.specs.StatedNumbers.{stated_total, stated_records}
use Rattle.join_groups.specs.declared.Tally.{Tally}

-- ---- groups, whatever the bytes

-- a group ends with a 98, and with a 99 that stands before any
abbrev pub ends : Record → Bool
ends r = heads group_trailer r || heads file_trailer r

-- a record before groups, of one group with the first of them
unfoldable pub record_before : Record → List (List Record) → List (List Record)
record_before r [] = (r ∷ []) ∷ []
record_before r (g ∷ gs) = (r ∷ g) ∷ gs

-- records cut after each 98 and after each 99
unfoldable pub cut_after : List Record → List (List Record)
cut_after [] = []
cut_after (r ∷ rs) = let gs = cut_after rs in cond (ends r) ((r ∷ []) ∷ gs) (record_before r gs)

-- a group's first record; and the 98 or 99 that ends it, without a line where there is none
unfoldable pub first_in : List Record → Record
first_in [] = []
first_in (r ∷ rs) = r

unfoldable pub last_in : List Record → Record
last_in [] = []
last_in (r ∷ rs) = cond (ends r) r (last_in rs)

-- those in front that begin with a 02
unfoldable pub in_front : List (List Record) → List (List Record)
in_front [] = []
in_front (g ∷ gs) = cond (heads group_header (first_in g)) (g ∷ in_front gs) []

-- those whose 02 names this receiver
unfoldable pub named_in : Bytes → List (List Record) → List (List Record)
named_in name [] = []
named_in name (g ∷ gs) = let found = named_in name gs in cond (named name (first_in g)) (g ∷ found) found

-- the groups that are taken for a name
unfoldable pub groups_taken : Bytes → Bytes → List (List Record)
groups_taken name bs = named_in name (in_front (cut_after (file_records bs)))

-- ---- what they add, as their 98s state it: a sum wraps, and a count of records stops at the largest number

unfoldable pub total_stated : List (List Record) → Sum
total_stated gs = sum_up (λ g. stated_total (last_in g)) gs

unfoldable pub records_stated : List (List Record) → ℕ
records_stated gs = add_up (λ g. stated_records (last_in g)) gs

unfoldable pub tally_of : List (List Record) → Tally
tally_of gs =
    record {
      groups = record { 0 = length gs };
      bytes = length (record_bytes (concat gs));
      total = units_of (wrapped_sum (total_stated gs));
      records = record { 0 = min (records_stated gs) most_records };
    }

-- ---- what is put of them

-- group after group, the bytes of each that fits into the room that is left
unfoldable pub fitting_bytes : ℕ → List (List Record) → Bytes
fitting_bytes room [] = []
fitting_bytes room (g ∷ gs) =
    let bs = record_bytes g in
    let size = length bs in
    cond (leb size room) (bs ++ fitting_bytes (room - size) gs) (fitting_bytes room gs)

-- the slice with them at its front
unfoldable pub slice_put : List (List Record) → Bytes → Bytes
slice_put gs before = let bs = fitting_bytes (length before) gs in bs ++ drop (length bs) before
