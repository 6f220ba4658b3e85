-- The goals of `is_negative`. Assumes nothing.
use Rattle.std.proofs.Common.{◌≡◌, ◌≤◌, ltb, length, [], ◌∷◌, refl, arith}
use Rattle.rules.specs.Bytes.{Bytes, minus, starts_with}
use Rattle.base_digits.proofs.SignLaws.{negative-first}
use Rattle.base_digits.proofs.is_negative.Goals as goal

none : (f : Bytes) → length f ≤ 0 → ltb 0 (length f) ≡ starts_with minus f
unfolding starts_with
none [] h = refl
none (b ∷ f) h = absurd (omega arith)

pub returns-then-f-gt0 : goal.returns-then-f-gt0
returns-then-f-gt0 c = negative-first _ (omega arith)

pub returns-else-f-gt0 : goal.returns-else-f-gt0
returns-else-f-gt0 c = none _ c.if-f-gt0.false
