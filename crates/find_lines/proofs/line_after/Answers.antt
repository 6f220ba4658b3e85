-- `find_lines::line_after`: a block after no byte of which such a line begins, and the bytes after the last whole block. Assumes nothing.
use Prim.Native.Nat.{ℕ, ◌+◌, ◌≤◌}
use native.Mathlib.Omega.{arith}
use mathlib.Core.Path.{◌≡◌, sym, ◌∙◌}
use lib.ListN.{length, drop}
use Rattle.std.specs.Prelude.{Option, Some, None, unwrap_or}
use Rattle.rules.specs.Bytes.{Bytes}
use Rattle.base_quantities.specs.declared.Place.{Place}
use Rattle.base_codes.specs.CodeMeaning.{bytes_meant}
use Rattle.find_lines.specs.LinesOfCode.{ahead_len, NextBetween}
use Rattle.find_lines.proofs.LineSearch.{ahead_none, ahead-quiet}
use Rattle.find_lines.proofs.line_after.Goals as goal

-- the next line of those that start after i, or the end
last-line : (x y s : Bytes) (a i : ℕ) (r : Option Place) → a + ahead_len x y (drop a s) ≡ i + ahead_len x y (drop i s) → NextBetween x y s i (length s) r
    → ((unwrap_or r (record { 0 = length s })).0 ≡ a + ahead_len x y (drop a s)) × ((unwrap_or r (record { 0 = length s })).0 ≤ length s)
last-line x y s a i None e n = (sym (e ∙ n ∙ ahead_none x y s (length s) (omega arith)), omega arith)
last-line x y s a i (Some p) e n = (n.0 ∙ sym e, n.2)

pub loop-i-preserved : goal.loop-i-preserved
loop-i-preserved c =
    let a = c.args in
    let l = c.loop-i in
    (omega arith, l.invariant.1 ∙ ahead-quiet (bytes_meant a.x) (bytes_meant a.y) a.s.now 128 l.i (omega arith) (c.may_meet.ensures c.if-may_meet.false))

pub returns : goal.returns
returns c =
    let a = c.args in
    rw c.unwrap_or.ensures (last-line (bytes_meant a.x) (bytes_meant a.y) a.s.now a.start.0 c.loop-i.i c.line_between-2.result c.loop-i.invariant.1 c.line_between-2.ensures)
