-- What the walk's answer stands for, and what `walk_record` promises. Assumes nothing.
use Rattle.std.specs.Prelude.{ℕ, ◌+◌, ◌≤◌, ◌≡◌, Result, Ok, Err, length}
use Rattle.rules.specs.Bytes.{Bytes}
use Rattle.rules.specs.Outcome.{Outcome, refused, fine}
use Rattle.rules.specs.Lines.{lines_of}
use Rattle.base_refusals.specs.declared.Refusal.{Refusal}
use Rattle.base_refusals.specs.RefusalMeaning.{refusal_meant}
use Rattle.read_wanted.specs.declared.want.Want.{Want}
use Rattle.read_wanted.specs.Wants.{wanted_of}
use Rattle.read_kept.specs.declared.Kept.{Kept}
use Rattle.read_kept.specs.KeepFields.{nothing_kept, Within}
use Rattle.read_walk.specs.WalkKept.{walk_from}

-- the answer
abbrev pub walked_of : Result Kept Refusal → Outcome Kept
walked_of (Err why) = refused (refusal_meant why)
walked_of (Ok k) = fine k

-- in a record of n bytes, after magnitudes m: places that a caller may add to the record's start, and sums within the largest
abbrev pub Bounds : ℕ → ℕ → Result Kept Refusal → Type 0
Bounds n m (Err why) = why.place.0 ≤ n + 3
Bounds n m (Ok k) = Within n m k

-- a record's bytes, what is wanted first, the magnitudes before, and the answer
pub record Walks (rec : Bytes) (first : Want) (before : ℕ) (r : Result Kept Refusal) : Type 0 where
  pub answer : walked_of r ≡ walk_from (wanted_of first) (nothing_kept before) (lines_of rec)
  pub bounds : Bounds (length rec) before r
