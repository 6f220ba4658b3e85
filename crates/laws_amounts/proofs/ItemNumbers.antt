-- The item of a number among items: there is one exactly below their number. Assumes nothing.
use Prim.Native.Nat.{ℕ, zero, suc, ◌≤◌, ◌<◌}
use native.Mathlib.Omega.{arith}
use mathlib.Core.Path.{◌≡◌, refl}
use mathlib.Core.List.{List, [], ◌∷◌}
use lib.ListN.{length}
use Rattle.rules.specs.Outcome.{refuse, fine}
use Rattle.rules.specs.Items.{AccountItem, item_from}

pub none_from : (is : List AccountItem) (n : ℕ) → length is ≤ n → item_from is n ≡ refuse 17 0
unfolding item_from
none_from [] n h = refl
none_from (i ∷ is) zero h = absurd (omega arith)
none_from (i ∷ is) (suc n) h = none_from is n (omega arith)

pub some-from : (is : List AccountItem) (n : ℕ) → n < length is → (i : AccountItem) × (item_from is n ≡ fine i)
unfolding item_from
some-from [] n h = absurd (omega arith)
some-from (i ∷ is) zero h = (i, refl)
some-from (i ∷ is) (suc n) h = some-from is n (omega arith)
