-- `join_trailer::count_lines` meets its contract. Assumes nothing.
use Prim.Native.Nat.{ℕ, ◌+◌, ◌-◌, ◌≤◌, ◌<◌}
use native.Mathlib.Omega.{arith}
use mathlib.Core.Path.{◌≡◌, ap, ◌∙◌}
use lib.ListN.{length, drop, length-drop, drop_of_length-le}
use lib.Seq.{drop-drop}
use Rattle.rules.specs.Bytes.{Bytes}
use Rattle.rules.specs.Lines.{lines_of}
use Rattle.read_lines.specs.LineLengths.{line_len}
use Rattle.read_lines.proofs.LineLengthLaws.{first_of, line-some}
use Rattle.join_trailer.proofs.count_lines.Goals as goal

-- a line more is passed
line-more : (s : Bytes) (at next : ℕ) → at < length s → next ≡ at + line_len (drop at s) → (at < next) × (length (lines_of (drop at s)) ≡ 1 + length (lines_of (drop next s)))
line-more s at next h e =
    let some : 0 < length (drop at s) = omega (arith, length-drop at s) in
    let after : length (lines_of (drop (line_len (drop at s)) (drop at s))) ≡ length (lines_of (drop next s)) = rw e (ap (λ (xs : Bytes). length (lines_of xs)) (drop-drop (line_len (drop at s)) at s)) in
    (omega (arith, line-some (drop at s) some), ap length (first_of (drop at s) some) ∙ omega (arith, after))

pub loop-at-smaller : goal.loop-at-smaller
loop-at-smaller c = omega (arith, line-more c.args.s.now c.loop-at.at c.next_line-at.result.0 (omega arith) c.next_line-at.ensures.0)

pub loop-at-preserved : goal.loop-at-preserved
loop-at-preserved c =
    let passed = line-more c.args.s.now c.loop-at.at c.next_line-at.result.0 (omega arith) c.next_line-at.ensures.0 in
    (omega (arith, passed.0), omega arith, omega (arith, passed.1))

pub returns : goal.returns
unfolding lines_of
returns c =
    let s = c.args.s.now in
    let l = c.loop-at in
    let none : length (lines_of (drop l.at s)) ≡ 0 = rw (drop_of_length-le s {i = l.at} (omega arith)) in
    (omega (arith, l.invariant.2, none), omega (arith, l.invariant.0, l.invariant.1))
