-- The last number by which the reader refuses. Assumes nothing.
use Prim.Native.Nat.{ℕ}

-- the numbers that the reader gives
abbrev pub last_number : ℕ
last_number = 13
