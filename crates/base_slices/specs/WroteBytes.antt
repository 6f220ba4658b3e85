-- A result that is written part by part to the front of a lent slice: what stands there so far, and what is left to write. Assumes nothing.
use Rattle.std.specs.Prelude.{ℕ, ◌+◌, ◌≤◌, ◌≡◌, ◌++◌, length, take, drop}
use Rattle.rules.specs.Bytes.{Bytes}

-- of the result, laid over the slice `before`, the first o bytes stand in `out`, and `rest` is left
pub record Wrote (result before : Bytes) (o : ℕ) (rest out : Bytes) : Type 0 where
  pub done : take o out ++ rest ≡ result
  pub tail : drop o out ≡ drop o before
  pub long : length out ≡ length before
  pub room : o + length rest ≤ length before
