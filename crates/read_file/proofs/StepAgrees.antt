-- The step with what is kept is the rules' step. Assumes nothing.
use Prim.Native.Nat.{◌≤◌}
use mathlib.Core.Path.{◌≡◌, refl}
use mathlib.Core.List.{List}
use Rattle.rules.specs.Outcome.{Outcome, refused, fine, ◌>>=◌}
use Rattle.rules.specs.Numbers.{magnitudes}
use Rattle.rules.specs.Limits.{most}
use Rattle.rules.specs.Lines.{Code, Record}
use Rattle.rules.specs.Grammar.{fields_of}
use Rattle.rules.specs.Records.{Field, walk_record}
use Rattle.rules.specs.Verdict.{State, good_lines, in_order, read_record, settled, step}
use Rattle.read_kept.specs.declared.Kept.{Kept}
use Rattle.read_kept.specs.KeepFields.{nothing_kept}
use Rattle.read_walk.specs.WalkKept.{walk_from}
use Rattle.read_walk.specs.WalkJoins.{Joins, refuses, keeps}
use Rattle.read_walk.proofs.WalkJoining.{joins}
use Rattle.read_file.specs.RecordSteps.{settled_k, step_k}
use Rattle.read_file.proofs.SettledRecords.{settled-right}

-- after the code
fields-right : (s : State) (r : Record) (c : Code) (o : Outcome (List Field)) {w : Outcome Kept} → Joins (magnitudes s.file.sum) o w
    → (w >>= λ k. settled_k s r c k) ≡ ((o >>= λ fs. fine (record { code = c; fields = fs })) >>= λ x. settled s r x)
fields-right s r c o (refuses why e) = rw e
fields-right s r c o (keeps fs k e i) = rw e (settled-right (magnitudes s.file.sum) fs k i s r c refl)

pub step_right : (s : State) (r : Record) → magnitudes s.file.sum ≤ most → step_k s r ≡ step s r
unfolding step_k step read_record
step_right s r h = by-outcomes (good_lines 0 s.limit r) (in_order s.expected r)
  where
    by-outcomes : (a : Outcome (Unit {0})) (b : Outcome Code)
        → (a >>= λ _. b >>= λ c. walk_from (fields_of c) (nothing_kept (magnitudes s.file.sum)) r >>= λ k. settled_k s r c k)
        ≡ ((a >>= λ _. b >>= λ c. walk_record c r >>= λ fs. fine (record { code = c; fields = fs })) >>= λ x. settled s r x)
    by-outcomes (refused why) b = refl
    by-outcomes (fine u) (refused why) = refl
    by-outcomes (fine u) (fine c) =
        fields-right s r c (walk_record c r) (joins c r (magnitudes s.file.sum) h)
