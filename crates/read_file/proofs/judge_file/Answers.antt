-- `read_file::judge_file` meets its contract. Assumes nothing.
use Rattle.std.proofs.Common.{◌≡◌, ℕ, ◌-◌, ◌<◌, Bool, true, false, eqb, refl, ◌∙◌, arith, length, take, drop, length-drop}
use Rattle.std.proofs.lemmas.Bool.Decides.{nat_tests}
use lib.Seq.{take_all}
use Rattle.rules.specs.Bytes.{Bytes}
use Rattle.rules.specs.Lines.{lines_of, record_size}
use Rattle.read_lines.specs.LineLengths.{first_record}
use Rattle.read_file.specs.FileMeanings.{state_meant}
use Rattle.read_file.proofs.FileRunLaws.{run_end, run-stop, run-go, last_end, last-go, judge-empty, judge-long, judge-stop}
use Rattle.read_file.proofs.GoodFiles.{judged-end}
use Rattle.read_file.proofs.judge_file.Goals as goal

-- the rest of the file, which the step was given
rest_is : (file : Bytes) (at : ℕ) → take (length file - at) (drop at file) ≡ drop at file
rest_is file at = let l = length-drop at file in take_all (length file - at) (drop at file) (omega arith)

-- of a file of n bytes: it has none, or some
no_byte : (n : ℕ) (t : Bool) → t ≡ eqb n 0 → t ≡ true → n ≡ 0
no_byte n t e h = grind (arith, nat_tests)

some_byte : (n : ℕ) (t : Bool) → t ≡ eqb n 0 → t ≡ false → 0 < n
some_byte n t e h = grind (arith, nat_tests)

pub returns-then-is_empty : goal.returns-then-is_empty
returns-then-is_empty c = rw c.nowhere.ensures (judge-empty c.args.file.now (no_byte _ _ c.is_empty.ensures c.if-is_empty.true))

pub returns-then-file-gt-LONGEST_FILE : goal.returns-then-file-gt-LONGEST_FILE
returns-then-file-gt-LONGEST_FILE c =
    rw c.nowhere-then-file-gt-LONGEST_FILE.ensures (judge-long c.args.file.now (some_byte _ _ c.is_empty.ensures c.if-is_empty.false) (omega arith))

-- the record is accepted
pub loop-next-preserved : goal.loop-next-preserved
loop-next-preserved c =
    let file = c.args.file.now in
    let at = c.loop-next.at in
    let s = state_meant c.loop-next.st in
    let i = c.loop-next.invariant in
    let l = length-drop at file in
    let z = rw (c.in-Ok-Some.field-0-is, rest_is file at) at c.in-Ok-Some.ensures in
    record {
      within = omega (arith, z.fits);
      held = z.held;
      room = omega (arith, z.records, z.fits, i.room);
      runs = i.runs ∙ run-go at _ s file (omega (arith, z.fits, z.some_byte)) z.extent _ z.steps;
      place = i.place ∙ last-go at _ s file (omega (arith, z.fits, z.some_byte)) z.extent _;
    }

-- no record is left
pub returns-in-Ok-None : goal.returns-in-Ok-None
returns-in-Ok-None c =
    let file = c.args.file.now in
    let at = c.loop-next.at in
    let i = c.loop-next.invariant in
    let l = length-drop at file in
    let z = rw (c.in-Ok-None.field-0-is, rest_is file at) at c.in-Ok-None.ensures in
    judged-end file c.loop-next.st c.loop-next.last (some_byte _ _ c.is_empty.ensures c.if-is_empty.false) (omega arith) i.held (omega (arith, i.room)) (i.runs ∙ run_end at _ file (omega arith)) (i.place ∙ last_end _ at file (omega arith)) _ c.at_end.ensures

-- the record is refused
pub returns-in-Err : goal.returns-in-Err
returns-in-Err c =
    let file = c.args.file.now in
    let at = c.loop-next.at in
    let i = c.loop-next.invariant in
    let l = length-drop at file in
    let z = rw (rest_is file at) at c.in-Err.ensures in
    rw c.at.ensures
    (judge-stop file (some_byte _ _ c.is_empty.ensures c.if-is_empty.false) (omega arith) _ (i.runs
    ∙ run-stop at (record_size (first_record (lines_of (drop at file)))) (state_meant c.loop-next.st) file (omega (arith, z.some_byte)) refl _ z.stops))
