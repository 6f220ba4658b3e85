-- `find_field::seek`: what the walk met, and that it may meet nothing. Assumes nothing.
use Prim.Native.Nat.{ℕ}
use mathlib.Core.Path.{◌≡◌, ap, ◌∙◌}
use mathlib.Core.List.{List}
use lib.ListN.{length}
use Rattle.std.specs.Prelude.{Result}
use Rattle.rules.specs.Bytes.{Bytes}
use Rattle.rules.specs.Lines.{Code, lines_of}
use Rattle.rules.specs.Grammar.{kind_number, fields_of}
use Rattle.base_refusals.specs.declared.Refusal.{Refusal}
use Rattle.base_codes.specs.CodeMeaning.{code_meant}
use Rattle.find_walk.specs.declared.Reached.{Reached}
use Rattle.find_walk.specs.WalkEnds.{walk_end, trace_of_record, reached_meant, WalksTo}
use Rattle.find_field.specs.declared.Sought.{Sought}
use Rattle.find_field.specs.FieldSearch.{seek_lines}
use Rattle.find_field.specs.SoughtKinds.{kind_meant, is_met}
use Rattle.find_field.proofs.WalkFound.{found_at, walk-found}
use Rattle.find_field.proofs.seek.Goals as goal

-- what is found where the walk over a whole record ends
found : (rec : Bytes) (code : Code) (sought : Sought) (k : ℕ) (before after : List ℕ) (r : Result Reached Refusal) → k ≡ kind_number (kind_meant sought)
    → WalksTo rec 0 (length rec) code k before after r → found_at (reached_meant rec r) ≡ seek_lines (kind_meant sought) (fields_of code) (lines_of rec)
found rec code sought k before after r kind w =
    ap found_at w.answer ∙ ap (λ (n : ℕ). found_at (walk_end n 0 (trace_of_record rec (length rec) code))) kind ∙ walk-found (kind_meant sought) code rec

-- whether one is met there
met : (rec : Bytes) (code : Code) (sought : Sought) (k : ℕ) (before after : List ℕ) (r : Result Reached Refusal) → k ≡ kind_number (kind_meant sought)
    → WalksTo rec 0 (length rec) code k before after r → is_met (reached_meant rec r) ≡ is_met (walk_end (kind_number (kind_meant sought)) 0 (trace_of_record rec (length rec) code))
met rec code sought k before after r kind w =
    ap is_met w.answer ∙ ap (λ (n : ℕ). is_met (walk_end n 0 (trace_of_record rec (length rec) code))) kind

pub returns-in-Ok-Field : goal.returns-in-Ok-Field
returns-in-Ok-Field c =
    let a = c.args in
    let w = rw c.in-Ok-Field.field-0-is at c.in-Ok-Field.ensures in
    record { answer = found a.rec.now (code_meant a.code) a.sought c.kind_sought-kind.result _ _ _ c.kind_sought-kind.ensures w; met = met a.rec.now (code_meant a.code) a.sought c.kind_sought-kind.result _ _ _ c.kind_sought-kind.ensures w; within = w.inside }

pub returns-in-Ok-Over : goal.returns-in-Ok-Over
returns-in-Ok-Over c =
    let a = c.args in
    let w = rw c.in-Ok-Over.field-0-is at c.in-Ok-Over.ensures in
    record { answer = found a.rec.now (code_meant a.code) a.sought c.kind_sought-kind.result _ _ _ c.kind_sought-kind.ensures w; met = met a.rec.now (code_meant a.code) a.sought c.kind_sought-kind.result _ _ _ c.kind_sought-kind.ensures w; within = tt }

pub returns-in-Err : goal.returns-in-Err
returns-in-Err c =
    let a = c.args in
    record { answer = found a.rec.now (code_meant a.code) a.sought c.kind_sought-kind.result _ _ _ c.kind_sought-kind.ensures c.in-Err.ensures; met = met a.rec.now (code_meant a.code) a.sought c.kind_sought-kind.result _ _ _ c.kind_sought-kind.ensures c.in-Err.ensures; within = tt }
