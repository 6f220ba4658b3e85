-- `code_at` meets its contract. Assumes nothing.
use Rattle.std.proofs.Common.{arith, ◌≡◌, refl, sym, ◌∙◌}
use Rattle.rules.specs.Lines.{code_in, code_of}
use Rattle.read_lines.proofs.Fronts.{code_here, code-after}
use Rattle.read_lines.proofs.code_at.Goals as goal

pub loop-code-init : goal.loop-code-init
unfolding code_of
loop-code-init c = refl

pub returns-then-begins : goal.returns-then-begins
returns-then-begins c =
    sym (c.loop-code.invariant ∙ code_here c.args.s.now c.args.start.0 _ c.loop-code.code-index _ c.loop-code-test.true c.begins.result c.begins.ensures c.if-begins.true)

pub loop-code-preserved : goal.loop-code-preserved
loop-code-preserved c =
    c.loop-code.invariant ∙ code-after c.args.s.now c.args.start.0 _ c.loop-code.code-index _ c.loop-code-test.true c.begins.result c.begins.ensures c.if-begins.false

pub returns : goal.returns
unfolding code_in
returns c = let e : c.loop-code.code-index ≡ 8 = omega arith in sym (rw e at c.loop-code.invariant)
