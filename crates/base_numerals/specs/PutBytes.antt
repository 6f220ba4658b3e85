-- What a call leaves that puts bytes, or what else a slice holds, at the front of a slice, or nothing where they don't fit. Assumes nothing.
use Rattle.std.specs.Prelude.{ℕ, List, ◌≤◌, ◌≡◌, ◌++◌, cond, length, drop, leb}

-- says of part of a result what `answered` (rules/specs/Combine.antt) says of all of it; joined by `put-fits` and `put-short` (proofs/PutLaws.antt).
-- The bytes to put and the slice before; the count that is answered and the slice after. `within` follows, and spares callers the cases
pub record Put {A : Type 0} (bs before : List A) (r : ℕ) (after : List A) : Type 0 where
  pub count : r ≡ cond (leb (length bs) (length before)) (length bs) 0
  pub bytes : after ≡ cond (leb (length bs) (length before)) (bs ++ drop (length bs) before) before
  pub within : r ≤ length before
