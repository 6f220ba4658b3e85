-- Lines of two codes: where the next one starts, in bytes as the code meets them, and in lines. Assumes nothing.
use Rattle.std.specs.Prelude.{ℕ, suc, ◌+◌, ◌≤◌, ◌<◌, ◌≡◌, Bool, true, false, cond, ◌&&◌, ◌||◌, List, [], ◌∷◌, eqb, take, drop, get_or, Option, Some, None}
use Rattle.base_quantities.specs.declared.Place.{Place}
use Rattle.rules.specs.Bytes.{Bytes, LF, same_bytes}
use Rattle.rules.specs.Lines.{Line, size_of, Code, begins}

-- ---- in bytes

-- the bytes begin with x or with y; stands for `begins` of either code (rules/specs/Lines.antt), joined by `before-first` (proofs/LineSearch.antt)
abbrev pub begins_either : Bytes → Bytes → Bytes → Bool
begins_either x y bs = same_bytes x (take 3 bs) || same_bytes y (take 3 bs)

-- after this byte a line begins with x or with y
abbrev pub line_ends : Bytes → Bytes → ℕ → Bytes → Bool
line_ends x y b bs = eqb b LF && begins_either x y bs

-- how many bytes stand before the next line that begins so; the line at hand is passed over; joined to `bytes_before` by `before-ahead` (proofs/LineSearch.antt)
unfoldable pub ahead_len : Bytes → Bytes → Bytes → ℕ
ahead_len x y [] = 0
ahead_len x y (b ∷ bs) = cond (line_ends x y b bs) 1 (suc (ahead_len x y bs))

-- after none of the n bytes from a on does a line begin so: `ahead_len` passes over them by `ahead-quiet` (proofs/LineSearch.antt)
abbrev pub Quiet : Bytes → Bytes → Bytes → ℕ → ℕ → Type 0
Quiet x y s a n = (k : ℕ) → k < n → line_ends x y (get_or s (a + k) 0) (drop (suc (a + k)) s) ≡ false

-- each of the n bytes from a on is above a line feed: they are `Quiet`, since none ends a line
abbrev pub NoEnd : Bytes → ℕ → ℕ → Type 0
NoEnd s a n = (k : ℕ) → k < n → LF < get_or s (a + k) 0

-- two bytes end a line and begin one with this or that digit: where they do not, the first is quiet by `quiet-byte` (proofs/LineSearch.antt)
abbrev pub may_begin : ℕ → ℕ → ℕ → ℕ → Bool
may_begin x y a b = eqb a LF && (eqb x b || eqb y b)

-- where the first line that begins so starts after one of the bytes from a on and before e, and that one does start there; or none does: what `ahead_len` is then (proofs/LineSearch.antt)
abbrev pub NextBetween : Bytes → Bytes → Bytes → ℕ → ℕ → Option Place → Type 0
NextBetween x y s a e None = a + ahead_len x y (drop a s) ≡ e + ahead_len x y (drop e s)
NextBetween x y s a e (Some p) = (p.0 ≡ a + ahead_len x y (drop a s)) × (begins_either x y (drop p.0 s) ≡ true) × (p.0 ≤ e)

-- ---- in lines

-- how many bytes stand before the first line of code c or d: where `cut_at` (rules/specs/Parts.antt) cuts next, joined by `last-at` (join_groups/proofs/GroupExtents.antt)
-- and `rest-size` (part_groups/proofs/PartTurns.antt)
unfoldable pub bytes_before : Code → Code → List Line → ℕ
bytes_before c d [] = 0
bytes_before c d (l ∷ ls) = cond (begins c l || begins d l) 0 (size_of l + bytes_before c d ls)
