-- Document 01, "Totals and counts": digit strings, signs and sums; and how "Parts, combining, splitting, writing" has numbers written. Assumes nothing.
use Rattle.std.specs.Prelude.{ℕ, zero, suc, ◌+◌, ◌*◌, ◌-◌, ◌/◌, ◌%◌, Bool, true, false, cond, ◌&&◌, ◌||◌, [], ◌∷◌, ◌++◌, leb, ltb, eqb, ℤ, length}
use Rattle.std.proofs.Math.IntN.{sub_ℕ}
use Rattle.rules.specs.Limits.{most}
use Rattle.rules.specs.Bytes.{Bytes, letter, plus, minus, between, all}

-- ---- reading

abbrev pub is_digit : ℕ → Bool
is_digit b = between (letter "0") (letter "9") b

-- from lo to hi digits
unfoldable pub digits : ℕ → ℕ → Bytes → Bool
digits lo hi bs = between lo hi (length bs) && all is_digit bs

-- the number that digits stand for, after those that stand for n
unfoldable pub number_from : ℕ → Bytes → ℕ
number_from n [] = n
number_from n (b ∷ bs) = number_from (n * 10 + (b - letter "0")) bs

abbrev pub number : Bytes → ℕ
number bs = number_from 0 bs

-- a sign and a magnitude, as a call of the writer gives them
pub record Signed : Type 0 where
  pub negative : Bool
  pub magnitude : ℕ

-- the bytes less a plus or minus in front
unfoldable pub without_sign : Bytes → Bytes
without_sign [] = []
without_sign (b ∷ bs) = cond (eqb b plus || eqb b minus) bs (b ∷ bs)

-- ---- sums

-- an algebraic sum: what came with a plus, and what came with a minus; its magnitudes add up to both together
pub record Sum : Type 0 where
  pub pluses : ℕ
  pub minuses : ℕ

abbrev pub zero_sum : Sum
zero_sum = record { pluses = 0; minuses = 0 }

abbrev pub as_sum : Signed → Sum
as_sum s = cond s.negative (record { pluses = 0; minuses = s.magnitude }) (record { pluses = s.magnitude; minuses = 0 })

infixl 60 ◌⊕◌
abbrev pub ◌⊕◌ : Sum → Sum → Sum
◌⊕◌ a b = record { pluses = a.pluses + b.pluses; minuses = a.minuses + b.minuses }

abbrev pub magnitudes : Sum → ℕ
magnitudes a = a.pluses + a.minuses

-- the same number: pluses less minuses
abbrev pub equals : Sum → Sum → Bool
equals a b = eqb (a.pluses + b.minuses) (b.pluses + a.minuses)

-- that number as an integer
abbrev pub as_integer : Sum → ℤ
as_integer a = sub_ℕ a.pluses a.minuses

-- not beyond the largest either way
abbrev pub within_most : Sum → Bool
within_most a = leb a.pluses (most + a.minuses) && leb a.minuses (most + a.pluses)

-- ---- writing

-- the digit of a number below 10
abbrev pub digit : ℕ → ℕ
digit n = letter "0" + n

-- a number's digits: those of its tenth, then its last. The test says that it is below 10; the first argument bounds the steps: n suffice,
-- so the second clause is never reached.
unfoldable pub decimal_within : ℕ → Bool → ℕ → Bytes
decimal_within zero true n = digit n ∷ []
decimal_within zero false n = []
decimal_within (suc k) true n = digit n ∷ []
decimal_within (suc k) false n = decimal_within k (ltb (n / 10) 10) (n / 10) ++ (digit (n % 10) ∷ [])

-- the digits without leading zeros
unfoldable pub decimal : ℕ → Bytes
decimal n = decimal_within n (ltb n 10) n

-- a fresh total: the minus sign first, then the digits; no plus
unfoldable pub total_bytes : Sum → Bytes
total_bytes a =
    cond (ltb a.pluses a.minuses) (minus ∷ decimal (a.minuses - a.pluses)) (decimal (a.pluses - a.minuses))
