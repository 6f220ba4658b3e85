-- A fresh 99 by its three numbers, and the 80 bytes that hold it. Assumes nothing.
use Rattle.std.specs.Prelude.{ℕ, ◌-◌, [], ◌∷◌, ◌++◌, length, replicate}
use Rattle.rules.specs.Bytes.{Bytes, LF, comma, slash}
use Rattle.rules.specs.Numbers.{Sum, decimal, total_bytes}
use Rattle.rules.specs.Lines.{file_trailer, code_bytes}
use Rattle.join_trailer.specs.declared.Trailer.{Trailer}

-- total, groups, and records with itself; stands for `fresh_trailer` (rules/specs/Combine.antt), joined by `is-fresh` (proofs/FreshLaws.antt)
unfoldable pub last_line : Sum → ℕ → ℕ → Bytes
last_line total groups records = code_bytes file_trailer ++ (total_bytes total ++ ((comma ∷ decimal groups) ++ ((comma ∷ decimal records) ++ (slash ∷ LF ∷ []))))

-- these bytes in 80, zeros after them; no 99 is longer: `last-most` (proofs/TrailerLengths.antt)
unfoldable pub trailer_of : Bytes → Trailer
trailer_of bs = record { bytes = bs ++ replicate (80 - length bs) 0; length = length bs }
