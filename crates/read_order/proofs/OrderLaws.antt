-- A list of one code holds what that code is. Assumes nothing.
use mathlib.Core.Path.{◌≡◌, refl}
use mathlib.Core.Bool.{Bool, true, false, ◌||◌}

pub or-false : (t : Bool) → t ≡ (t || false)
or-false true = refl
or-false false = refl
