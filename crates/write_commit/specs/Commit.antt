-- A drafted line written: the order of refusals, and the state after it. Assumes nothing.
use Rattle.std.specs.Prelude.{ℕ, ◌+◌, Bool, ◌&&◌, [], ◌∷◌, ◌++◌, leb, length}
use Rattle.rules.specs.Bytes.{LF}
use Rattle.rules.specs.Numbers.{Sum, ◌⊕◌, magnitudes}
use Rattle.rules.specs.Limits.{most}
use Rattle.rules.specs.Outcome.{Outcome, fine, ◌>>=◌, ◌>>◌, check}
use Rattle.rules.specs.Lines.{Code}
use Rattle.rules.specs.Totals.{◌⊞◌, adding}
use Rattle.rules.specs.Combine.{has_room}
use Rattle.rules.specs.Order.{group_after, account_after}
use Rattle.rules.specs.Writer.{Writer, phase_after, sound, in_turn, Entry}
use Rattle.write_line.specs.DraftMeaning.{Sofar}

-- the state after a line of this code and so many bytes, which adds this sum; stands for `next` of `entry_of` (rules/specs/Writer.antt)
abbrev pub state_after : Writer → Code → Sum → Bool → ℕ → Writer
state_after w c sum items n =
    record {
      phase = phase_after c;
      items = items;
      size = w.size + n;
      file = w.file ⊞ adding c sum 1;
      group = group_after c w.group (adding c sum 1);
      account = account_after c w.account (adding c sum 1);
    }

-- 10, 18, 15 for a line of n bytes; stands for `line_fits` (rules/specs/Writer.antt)
unfoldable pub room_for : Writer → Sum → ℕ → ℕ → Outcome (Unit {0})
room_for w sum n room = do
  check (leb (magnitudes (w.file.sum ⊕ sum)) most) 10 0
  has_room (w.size + n) room

-- 19; then 20, where the draft is refused; then 10, 18, 15. Stands for `write_line` (rules/specs/Writer.antt), and with it the two above:
-- joined by `committed-is` (proofs/LinesCommitted.antt)
unfoldable pub committed : Writer → Code → Outcome Sofar → Sum → Bool → ℕ → Outcome Entry
committed w c o sum items room = do
  check (sound w && in_turn c w.phase w.items) 19 0
  x ← o
  room_for w sum (length x.bytes + 1) room
  fine (record { line = x.bytes ++ (LF ∷ []); next = state_after w c sum items (length x.bytes + 1) })
