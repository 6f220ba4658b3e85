-- Words that the theorems on amounts are stated in: what the items and details of an account add, and an amount written out with leading zeros. Assumes nothing.
use Rattle.std.specs.Prelude.{ℕ, ◌≡◌, Bool, not, ◌&&◌, ◌||◌, List, [], ◌∷◌, ◌++◌, replicate}
use Rattle.rules.specs.Bytes.{Bytes, letter, plus, minus, is_empty, all}
use Rattle.rules.specs.Numbers.{is_digit, without_sign, decimal, Sum}
use Rattle.rules.specs.Amounts.{Amount, empty, unsigned, with_plus, with_minus, amount_in, amount_adds}
use Rattle.rules.specs.Lines.{account_header, Record}
use Rattle.rules.specs.Parts.{first_fields, detail_in}
use Rattle.rules.specs.Items.{items_in}
use Rattle.laws.specs.LawWords.{sum_up, details_in}

-- ---- what an account's amounts add

-- the items of its 03, and its details
unfoldable pub items_add : List Record → Sum
items_add a = sum_up (λ i. amount_adds i.amount) (items_in (first_fields account_header a))

unfoldable pub details_add : List Record → Sum
details_add a = sum_up (λ d. amount_adds (detail_in (record { place = 0; records = d })).amount) (details_in a)

-- ---- an amount's bytes

-- nothing; or digits, however many, with at most a sign
abbrev pub is_amount : Bytes → Bool
is_amount bs = is_empty bs || (not (is_empty (without_sign bs)) && all is_digit (without_sign bs))

-- a number's digits after so many zeros
abbrev pub with_zeros : ℕ → ℕ → Bytes
with_zeros zeros n = replicate zeros (letter "0") ++ decimal n

-- its sign, so many zeros, and its magnitude's digits
abbrev pub written_with : ℕ → Amount → Bytes
written_with k empty = []
written_with k (unsigned n) = with_zeros k n
written_with k (with_plus n) = plus ∷ with_zeros k n
written_with k (with_minus n) = minus ∷ with_zeros k n

-- the field's bytes are its form and its magnitude written out, up to leading zeros
pub record GivenBack (bs : Bytes) : Type 0 where
  pub zeros : ℕ
  pub bytes : bs ≡ written_with zeros (amount_in bs)
