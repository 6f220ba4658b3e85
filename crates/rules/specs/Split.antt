-- Document 01, "Split (name, file)": header lines, the matching groups, a fresh 99. Assumes nothing.
use Rattle.std.specs.Prelude.{ℕ, Bool, cond, ◌&&◌, List, [], ◌∷◌, ◌++◌, length}
use Rattle.rules.specs.Limits.{longest_name}
use Rattle.rules.specs.Bytes.{Bytes, between, clean, same_bytes}
use Rattle.rules.specs.Outcome.{Outcome, ◌>>=◌, ◌>>◌, check}
use Rattle.rules.specs.Lines.{Record}
use Rattle.rules.specs.Verdict.{judge}
use Rattle.rules.specs.Parts.{header_in, groups_in, receiver_of}
use Rattle.rules.specs.Combine.{Answer, answered, fitting, with_trailer, concat}

-- 16: not empty, not over 76, no comma, slash or byte not allowed
unfoldable pub is_name : Bytes → Bool
is_name name = between 1 longest_name (length name) && clean name

-- the groups whose receiver equals the name byte for byte; since a name isn't empty, an empty receiver matches nothing
unfoldable pub groups_for : Bytes → List (List Record) → List (List Record)
groups_for name [] = []
groups_for name (g ∷ gs) = let found = groups_for name gs in cond (same_bytes name (receiver_of g)) (g ∷ found) found

-- order: 16, reader's refusal, 18, 15; room is the length of the output slice
unfoldable pub split_out : Bytes → Bytes → ℕ → Outcome Bytes
split_out name file room = do
  check (is_name name) 16 0
  judge file
  fitting (with_trailer (header_in file ++ concat (groups_for name (groups_in file)))) room

unfoldable pub split : Bytes → Bytes → Bytes → Answer
split name file before = answered (split_out name file (length before)) 0 before
