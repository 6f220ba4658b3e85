-- How the walk that keeps joins the rules' walk: the same refusal, or what is kept is kept of the fields that the rules give. Assumes nothing.
use Rattle.std.specs.Prelude.{ℕ, ◌≡◌, List}
use Rattle.rules.specs.Outcome.{Refusal, Outcome, refused, fine}
use Rattle.rules.specs.Records.{Field}
use Rattle.read_kept.specs.declared.Kept.{Kept}
use Rattle.read_kept.specs.KeptOfFields.{KeptOf}

-- what the rules' walk gives, and what the walk that keeps gives, after records with magnitudes m
pub data Joins (m : ℕ) (o : Outcome (List Field)) : Outcome Kept → Type 0 where
  refuses : (why : Refusal) → o ≡ refused why → Joins m o (refused why)
  keeps : (fs : List Field) (k : Kept) → o ≡ fine fs → KeptOf m fs k → Joins m o (fine k)
