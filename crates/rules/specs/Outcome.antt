-- Document 01: each call ends with its answer or with a refusal, by number and byte place. A `do` block of checks is read from the top: the
-- first that refuses decides. Assumes nothing.
use Rattle.std.specs.Prelude.{ℕ, ◌+◌, Bool, true, false}
use Rattle.std.proofs.Math.Option.{Option, none, some}

-- a refusal: its number, and its place in bytes from 0; 0 where no byte of a file shows it
pub record Refusal : Type 0 where
  pub number : ℕ
  pub place : ℕ

pub data Outcome (A : Type 0) : Type 0 where
  refused : Refusal → Outcome A
  fine : A → Outcome A

-- refused by this number at this place
abbrev pub refuse : {A : Type 0} → ℕ → ℕ → Outcome A
refuse n p = refused (record { number = n; place = p })

infixl 20 ◌>>=◌
infixl 20 ◌>>◌
abbrev pub ◌>>=◌ : {A B : Type 0} → Outcome A → (A → Outcome B) → Outcome B
◌>>=◌ (refused why) f = refused why
◌>>=◌ (fine a) f = f a

abbrev pub ◌>>◌ : {A B : Type 0} → Outcome A → Outcome B → Outcome B
◌>>◌ o r = o >>= λ _. r

-- refused by this number at this place, unless the test holds
abbrev pub check : Bool → ℕ → ℕ → Outcome (Unit {0})
check true n p = fine tt
check false n p = refuse n p

-- what is there; refused by this number at this place where nothing is
abbrev pub or_refused : {A : Type 0} → Option A → ℕ → ℕ → Outcome A
or_refused none n p = refuse n p
or_refused (some a) n p = fine a

-- the answer, or this where it is refused
abbrev pub or_else : {A : Type 0} → Outcome A → A → A
or_else (refused why) d = d
or_else (fine a) d = a

-- the same, with the place counted from p bytes before
unfoldable pub moved : {A : Type 0} → ℕ → Outcome A → Outcome A
moved p (refused why) = refuse why.number (p + why.place)
moved p (fine a) = fine a

-- the number and the place that a call answers: 0 and 0 where it is not refused
abbrev pub not_refused : Refusal
not_refused = record { number = 0; place = 0 }

abbrev pub refusal_of : {A : Type 0} → Outcome A → Refusal
refusal_of (refused why) = why
refusal_of (fine a) = not_refused

abbrev pub number_of : {A : Type 0} → Outcome A → ℕ
number_of o = (refusal_of o).number

abbrev pub place_of : {A : Type 0} → Outcome A → ℕ
place_of o = (refusal_of o).place
