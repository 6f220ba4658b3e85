-- Read-back in words: what a field says, what a call gives, calls one after the other, and what a reader finds in a file. Assumes nothing.
use Rattle.std.specs.Prelude.{ℕ, ◌+◌, cond, ◌&&◌, ◌||◌, List, [], ◌∷◌, ◌++◌, eqb, ℤ}
use Rattle.std.proofs.Math.Option.{Option, none, some}
use Rattle.rules.specs.Bytes.{Bytes, letter, slash, is_empty, just}
use Rattle.rules.specs.Numbers.{Signed, as_sum, as_integer}
use Rattle.rules.specs.Amounts.{amount_in, amount_adds}
use Rattle.rules.specs.Numbers as numbers
use Rattle.rules.specs.Lines.{Code, continuation, same_code, code_of, Record, file_records}
use Rattle.rules.specs.Grammar.{Kind, same_kind, amount, status_amount, total, item_count, count, records, text}
use Rattle.rules.specs.Records.{Field}
use Rattle.rules.specs.Parts.{fields_in}
use Rattle.rules.specs.Totals.{Summary}
use Rattle.rules.specs.Writer.{Item, Call, write_header, write_group, write_account, write_item, write_detail, end_account, end_group, end_file, Writer, fresh_writer, given, write}

-- ---- what a field says

-- nothing; bytes; a sum of minor units; or a number of items, accounts, groups or records
pub data Value : Type 0 where
  nothing : Value
  bytes : Bytes → Value
  units : ℤ → Value
  number : ℕ → Value

-- a field that isn't empty, by its kind; "/" at a text's place says nothing
unfoldable pub filled : Kind → Bytes → Value
filled k bs =
    cond (same_kind k amount || (same_kind k status_amount || same_kind k total)) (units (as_integer (amount_adds (amount_in bs))))
    (cond (same_kind k item_count || (same_kind k count || same_kind k records)) (number (numbers.number bs))
    (cond (same_kind k text && just slash bs) nothing (bytes bs)))

-- a field as it is read; an empty one says nothing
unfoldable pub said : Field → Value
said f = cond (is_empty f.bytes) nothing (filled f.kind f.bytes)

unfoldable pub all_said : List Field → List Value
all_said [] = []
all_said (f ∷ fs) = said f ∷ all_said fs

-- ---- what a reader finds in a file: the code of each record, and what its fields say

-- a record's code, none where its first line has none, and what each of its fields says
pub record Told : Type 0 where
  pub code : Option Code
  pub values : List Value

-- a record of this code
abbrev pub of_code : Code → List Value → Told
of_code c vs = record { code = some c; values = vs }

unfoldable pub coded_said : Option Code → Record → Told
coded_said none r = record { code = none; values = [] }
coded_said (some c) r = of_code c (all_said (fields_in c r))

unfoldable pub record_said : Record → Told
record_said [] = record { code = none; values = [] }
record_said (l ∷ ls) = coded_said (code_of l) (l ∷ ls)

unfoldable pub records_said : List Record → List Told
records_said [] = []
records_said (r ∷ rs) = record_said r ∷ records_said rs

unfoldable pub file_said : Bytes → List Told
file_said file = records_said (file_records file)

-- ---- what a call gives

-- bytes; an amount, a number, or none
abbrev pub word : Bytes → Value
word bs = cond (is_empty bs) nothing (bytes bs)

abbrev pub amount_given : Option Signed → Value
amount_given none = nothing
amount_given (some a) = units (as_integer (as_sum a))

abbrev pub items_given : Option ℕ → Value
items_given none = nothing
items_given (some n) = number n

-- type, amount, item count; no funds
abbrev pub item_given : Item → List Value
item_given i = word i.type ∷ amount_given i.amount ∷ items_given i.item_count ∷ nothing ∷ []

-- a trailer's total, count and record count, itself included
abbrev pub trailer_given : Summary → ℕ → List Value
trailer_given s n = units (as_integer s.sum) ∷ number n ∷ number (s.records + 1) ∷ []

-- field by field; the trailers give the writer's own sums and counts
unfoldable pub gives : Writer → Call → List Value
gives w (write_header s r d t n) = word s ∷ word r ∷ word d ∷ word t ∷ word n ∷ nothing ∷ nothing ∷ bytes (letter "2" ∷ []) ∷ []
gives w (write_group u o s d t c m) = word u ∷ word o ∷ word s ∷ word d ∷ word t ∷ word c ∷ word m ∷ []
gives w (write_account n c none) = word n ∷ word c ∷ nothing ∷ nothing ∷ nothing ∷ nothing ∷ []
gives w (write_account n c (some i)) = word n ∷ word c ∷ item_given i
gives w (write_item i) = item_given i
gives w (write_detail y a b c t) = word y ∷ amount_given a ∷ nothing ∷ word b ∷ word c ∷ word t ∷ []
gives w end_account = units (as_integer w.account.sum) ∷ number (w.account.records + 1) ∷ []
gives w end_group = trailer_given w.group w.group.accounts
gives w end_file = trailer_given w.file w.file.groups

-- ---- calls one after the other

-- values at the end of the last record's, whose code stays; an 88 before any record would be one of its own
unfoldable pub to_last : List Told → List Value → List Told
to_last [] vs = of_code continuation vs ∷ []
to_last (r ∷ []) vs = record { code = r.code; values = r.values ++ vs } ∷ []
to_last (r ∷ q ∷ rs) vs = r ∷ to_last (q ∷ rs) vs

-- record by record, with those of a line of this code: an 88 goes on with the last record, any other begins a record of its code
unfoldable pub gathered : Code → List Told → List Value → List Told
gathered c told vs = cond (same_code c continuation) (to_last told vs) (told ++ (of_code c vs ∷ []))

-- the state, the output slice, and what the calls so far gave, refused ones left out
pub record Session : Type 0 where
  pub writer : Writer
  pub output : Bytes
  pub told : List Told

abbrev pub fresh_session : Bytes → Session
fresh_session out = record { writer = fresh_writer; output = out; told = [] }

-- a call with the state and the slice that the one before left
unfoldable pub called : Session → Call → Session
called s call =
    let answer = write s.writer call s.output in
    record {
      writer = answer.writer;
      output = answer.output;
      told = cond (eqb answer.refusal.number 0) (gathered (given s.writer call).code s.told (gives s.writer call)) s.told;
    }

unfoldable pub called_all : Session → List Call → Session
called_all s [] = s
called_all s (c ∷ cs) = called_all (called s c) cs
