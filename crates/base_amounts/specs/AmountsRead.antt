-- What reading an amount finds. Assumes nothing.
use Rattle.std.specs.Prelude.{Bool, true, false, cond, [], ◌∷◌, eqb}
use Rattle.rules.specs.Bytes.{Bytes, plus, minus}
use Rattle.rules.specs.Amounts.{Amount, empty, unsigned, with_plus, with_minus}
use Rattle.base_digits.specs.NumbersRead.{value_of}
use Rattle.base_amounts.specs.declared.Amount as declared
use Rattle.base_amounts.specs.declared.Amount.TheVariants as variants

-- an amount of the code
abbrev pub amount_meant : declared.Amount → Amount
amount_meant variants.Empty = empty
amount_meant (variants.Unsigned n) = unsigned n.0
amount_meant (variants.WithPlus n) = with_plus n.0
amount_meant (variants.WithMinus n) = with_minus n.0

-- a field's amount. Stands for `amount_in` (rules/specs/Amounts.antt); joined by `amount-signed` and `amount-empty` (proofs/AmountLaws.antt)
unfoldable pub amount_read : Bytes → Amount
amount_read [] = empty
amount_read (b ∷ bs) =
    cond (eqb b plus) (with_plus (value_of bs))
    (cond (eqb b minus) (with_minus (value_of bs))
    (unsigned (value_of (b ∷ bs))))

-- it has a minus
abbrev pub is_minus : Amount → Bool
is_minus empty = false
is_minus (unsigned n) = false
is_minus (with_plus n) = false
is_minus (with_minus n) = true
