-- Document 01, "Parts": the groups, accounts and details of a file, in file order, and the calls that hand one out. Assumes nothing.
use Rattle.std.specs.Prelude.{ℕ, zero, suc, ◌+◌, Bool, false, cond, List, [], ◌∷◌}
use Rattle.rules.specs.Bytes.{Bytes, slash, just}
use Rattle.rules.specs.Numbers.{number}
use Rattle.rules.specs.Amounts.{Amount, amount_in}
use Rattle.rules.specs.Outcome.{Outcome, refused, refuse, fine, ◌>>=◌, or_else}
use Rattle.rules.specs.Lines.{Code, group_header, account_header, detail, account_trailer, group_trailer, file_trailer, begins, Record, record_size, record_bytes, file_records}
use Rattle.rules.specs.Grammar.{ultimate_receiver, detail_type, amount, text}
use Rattle.rules.specs.Records.{Field, the, walk_record}
use Rattle.rules.specs.Verdict.{judge}

-- ---- cutting

-- the record's first line begins with this code; no record is without a line, so the first clause is never reached
abbrev pub heads : Code → Record → Bool
heads c [] = false
heads c (l ∷ ls) = begins c l

-- records cut before each of code c and before each of code d: waiting, those before the first cut; parts, those that begin with code c
pub record Parts : Type 0 where
  pub waiting : List Record
  pub parts : List (List Record)

unfoldable pub cut_at : Code → Code → List Record → Parts
cut_at c d [] = record { waiting = []; parts = [] }
cut_at c d (r ∷ rs) =
    let p = cut_at c d rs in
    cond (heads c r) (record { waiting = []; parts = (r ∷ p.waiting) ∷ p.parts })
    (cond (heads d r) (record { waiting = []; parts = p.parts })
    (record { waiting = r ∷ p.waiting; parts = p.parts }))

-- of an accepted file: a group runs from its 02 to the end of its 98, an account from its 03 to the end of its 49, a detail is a 16
unfoldable pub in_groups : List Record → Parts
in_groups rs = cut_at group_header file_trailer rs

unfoldable pub in_accounts : List Record → Parts
in_accounts rs = cut_at account_header group_trailer rs

unfoldable pub in_details : List Record → Parts
in_details rs = cut_at detail account_trailer rs

-- the header of an accepted file, and its groups
unfoldable pub header_in : Bytes → List Record
header_in file = (in_groups (file_records file)).waiting

unfoldable pub groups_in : Bytes → List (List Record)
groups_in file = (in_groups (file_records file)).parts

-- ---- numbering

-- records of a file that stand together, and the place of their first byte
pub record Placed : Type 0 where
  pub place : ℕ
  pub records : List Record

unfoldable pub size_of_all : List Record → ℕ
size_of_all [] = 0
size_of_all (r ∷ rs) = record_size r + size_of_all rs

-- the part of this number, from 0, of parts the first of which starts at place p; 17 where there is none
unfoldable pub part_from : ℕ → List (List Record) → ℕ → Outcome Placed
part_from p [] i = refuse 17 0
part_from p (rs ∷ rss) zero = fine (record { place = p; records = rs })
part_from p (rs ∷ rss) (suc i) = part_from (p + size_of_all rs) rss i

-- the same of records cut so, the first of which starts at place p
unfoldable pub part_in : ℕ → Parts → ℕ → Outcome Placed
part_in p x i = part_from (p + size_of_all x.waiting) x.parts i

-- order: reader's refusal, 17
unfoldable pub group_at : Bytes → ℕ → Outcome Placed
group_at file g = judge file >>= λ _. part_in 0 (in_groups (file_records file)) g

unfoldable pub account_at : Bytes → ℕ → ℕ → Outcome Placed
account_at file g a = group_at file g >>= λ group. part_in group.place (in_accounts group.records) a

unfoldable pub detail_part_at : Bytes → ℕ → ℕ → ℕ → Outcome Placed
detail_part_at file g a d = account_at file g a >>= λ account. part_in account.place (in_details account.records) d

-- the part that a call hands out: its bytes, line ends included; an empty one where refused
unfoldable pub part_bytes : Outcome Placed → Bytes
part_bytes (refused why) = []
part_bytes (fine x) = record_bytes x.records

-- ---- fields

-- the fields of a record of code c; none where the walk refuses it
unfoldable pub fields_in : Code → Record → List Field
fields_in c r = or_else (walk_record c r) []

-- the fields of the first of some records, of code c
unfoldable pub first_fields : Code → List Record → List Field
first_fields c [] = []
first_fields c (r ∷ rs) = fields_in c r

-- the ultimate receiver of a group
unfoldable pub receiver_of : List Record → Bytes
receiver_of g = (the ultimate_receiver (first_fields group_header g)).bytes

-- a detail's answer: its type, its amount as it was given, and its first text piece with its place in the file; an empty one, at 0, if none
pub record Detail : Type 0 where
  pub type : ℕ
  pub amount : Amount
  pub text_place : ℕ
  pub text_bytes : Bytes

unfoldable pub detail_in : Placed → Detail
detail_in x =
    let fs = first_fields detail x.records in
    let piece = the text fs in
    let no_text = just slash piece.bytes in
    record {
      type = number (the detail_type fs).bytes;
      amount = amount_in (the amount fs).bytes;
      text_place = cond no_text 0 (x.place + piece.place);
      text_bytes = cond no_text [] piece.bytes;
    }

unfoldable pub detail_at : Bytes → ℕ → ℕ → ℕ → Outcome Detail
detail_at file g a d = detail_part_at file g a d >>= λ x. fine (detail_in x)
