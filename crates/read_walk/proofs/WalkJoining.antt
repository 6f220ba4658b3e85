-- The walk that keeps gives the rules' refusal, or keeps what the later checks need of the rules' fields. Assumes nothing.
use Prim.Native.Nat.{ℕ, ◌≤◌}
use mathlib.Core.Path.{refl}
use mathlib.Core.List.{List}
use Rattle.rules.specs.Outcome.{Outcome, refused, fine, ◌>>=◌}
use Rattle.rules.specs.Lines.{Code, Record}
use Rattle.rules.specs.Limits.{most}
use Rattle.rules.specs.Grammar.{fields_of}
use Rattle.rules.specs.Records.{Field, walk_record}
use Rattle.read_kept.specs.KeepFields.{nothing_kept, keep_all}
use Rattle.read_kept.proofs.KeepAllLaws.{kept_of}
use Rattle.read_walk.specs.WalkKept.{walk_from}
use Rattle.read_walk.specs.WalkJoins.{Joins, refuses, keeps}
use Rattle.read_walk.proofs.WalkAgrees.{agrees}

pub joins : (c : Code) (r : Record) (m : ℕ) → m ≤ most → Joins m (walk_record c r) (walk_from (fields_of c) (nothing_kept m) r)
joins c r m h = rw (agrees (nothing_kept m) c r) (go (walk_record c r))
  where
    go : (o : Outcome (List Field)) → Joins m o (o >>= λ fs. fine (keep_all (nothing_kept m) fs))
    go (refused why) = refuses why refl
    go (fine fs) = keeps fs (keep_all (nothing_kept m) fs) refl (kept_of m fs h)
