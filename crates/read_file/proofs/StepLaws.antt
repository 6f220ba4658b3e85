-- One record, by the cases of the code. Assumes nothing.
use Prim.Native.Nat.{ℕ, ◌<◌}
use mathlib.Core.Path.{◌≡◌}
use mathlib.Core.Bool.{true, false}
use mathlib.Core.List.{List}
use mathlib.Core.Option.{some}
use lib.ListN.{length}
use Rattle.rules.specs.Bytes.{Bytes}
use Rattle.rules.specs.Outcome.{Refusal, refused, refuse, fine, ◌>>◌, check}
use Rattle.rules.specs.Numbers.{magnitudes}
use Rattle.rules.specs.Lines.{Code, Record, lines_of, code_of}
use Rattle.rules.specs.Grammar.{fields_of}
use Rattle.rules.specs.Order.{among}
use Rattle.rules.specs.Verdict.{State, good_lines, coded, in_order}
use Rattle.read_lines.specs.LineLengths.{first_line, first_record}
use Rattle.read_lines.proofs.LineLengthLaws.{first_of}
use Rattle.read_kept.specs.declared.Kept.{Kept}
use Rattle.read_kept.specs.KeepFields.{nothing_kept}
use Rattle.read_walk.specs.WalkKept.{walk_from}
use Rattle.read_file.specs.RecordSteps.{settled_k, step_k}

-- the first record's code in its order
pub order_is : (cs : List Code) (rest : Bytes) (c : Code) → 0 < length rest → code_of (first_line rest) ≡ some c
    → in_order cs (first_record (lines_of rest)) ≡ (check (among c cs) 6 0 >> fine c)
unfolding in_order coded first_record
order_is cs rest c h e = rw (first_of rest h) (rw e)

module _ (s : State) (r : Record) where
  pub step_lines : (why : Refusal) → good_lines 0 s.limit r ≡ refused why → step_k s r ≡ refused why
  unfolding step_k
  step_lines why e = rw e

  module _ (g : good_lines 0 s.limit r ≡ fine tt) (c : Code) (o : in_order s.expected r ≡ (check (among c s.expected) 6 0 >> fine c)) where
    pub step-order : among c s.expected ≡ false → step_k s r ≡ refuse 6 0
    unfolding step_k
    step-order a = rw (g, o, a)

    module _ (a : among c s.expected ≡ true) where
      pub step-walk : (why : Refusal) → walk_from (fields_of c) (nothing_kept (magnitudes s.file.sum)) r ≡ refused why → step_k s r ≡ refused why
      unfolding step_k
      step-walk why w = rw (g, o, a, w)

      pub step-settle : (k : Kept) → walk_from (fields_of c) (nothing_kept (magnitudes s.file.sum)) r ≡ fine k → step_k s r ≡ settled_k s r c k
      unfolding step_k
      step-settle k w = rw (g, o, a, w)
