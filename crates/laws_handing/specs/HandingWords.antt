-- What is met at the places of a file: a record with its code, the fields that the reader took, and the amounts among them. Assumes nothing.
use Rattle.std.specs.Prelude.{ℕ, zero, suc, ◌+◌, ◌*◌, ◌≤◌, ◌<◌, ◌≡◌, cond, ◌||◌, List, [], ◌∷◌, T, eqb, length}
use Rattle.rules.specs.Bytes.{Bytes}
use Rattle.rules.specs.Numbers.{Sum, zero_sum, ◌⊕◌}
use Rattle.rules.specs.Amounts.{amount_in, amount_adds}
use Rattle.rules.specs.Outcome.{fine, refuse, or_else}
use Rattle.rules.specs.Lines.{Code, Record}
use Rattle.rules.specs.Grammar.{ultimate_receiver, kind_number}
use Rattle.rules.specs.Records.{Field, the, walk_record}
use Rattle.rules.specs.Parts.{heads, receiver_of}
use Rattle.rules.specs.HandedOut.{record_at, record_answer, fields_at, fields_out}

-- ---- records and fields

-- at place p the record r is met, with the code that its first line begins with
pub record RecordMet (file : Bytes) (p : ℕ) (r : Record) : Type 0 where
  pub code : Code
  pub is_code : T (heads code r)
  pub met : record_at file p ≡ fine (record { code = code; lines = r })

-- and the fields met there are those that the reader took; into a slice they are handed out where it has three numbers a field, else 15
pub record FieldsMet (file : Bytes) (p : ℕ) (r : Record) : Type 0 where
  pub code : Code
  pub is_code : T (heads code r)
  pub fields : List Field
  pub taken : walk_record code r ≡ fine fields
  pub met : fields_at file p ≡ fine fields
  pub with-room : (room : ℕ) → 3 * length fields ≤ room → fields_out file p room ≡ fine fields
  pub without-room : (room : ℕ) → room < 3 * length fields → fields_out file p room ≡ refuse 15 0

-- at place p the fields of a group's 02 are met, and the receiver among them is the one that split compares
pub record ReceiverMet (file : Bytes) (p : ℕ) (g : List Record) : Type 0 where
  pub fields : List Field
  pub met : fields_at file p ≡ fine fields
  pub same : (the ultimate_receiver fields).bytes ≡ receiver_of g

-- ---- amounts

-- a field's amount, with its sign, by the number of its kind: 16 is a status amount, 17 an amount; others, funds amounts too, have none
unfoldable pub amount_handed : Field → Sum
amount_handed f = cond (eqb (kind_number f.kind) 17 || eqb (kind_number f.kind) 16) (amount_adds (amount_in f.bytes)) zero_sum

unfoldable pub amounts_handed : List Field → Sum
amounts_handed [] = zero_sum
amounts_handed (f ∷ fs) = amount_handed f ⊕ amounts_handed fs

-- the amounts of so many records, the first of which begins at place p, and each next one the length further that is answered
unfoldable pub amounts_from : Bytes → ℕ → ℕ → Sum
amounts_from file p zero = zero_sum
amounts_from file p (suc n) = amounts_handed (or_else (fields_at file p) []) ⊕ amounts_from file (p + (record_answer (record_at file p)).len) n
