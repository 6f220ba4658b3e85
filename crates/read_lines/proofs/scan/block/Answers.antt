-- `block` meets its contract. Assumes nothing.
use Rattle.std.proofs.Common.{ℕ, ◌≡◌, ◌+◌, min, ap, sym, ◌∙◌, subst, arith}
use Rattle.read_lines.proofs.Blocks.{Nearest, nearest-none, nearest-step, block-is}
use Rattle.read_lines.proofs.scan.block.Goals as goal

pub loop-i-init : goal.loop-i-init
loop-i-init c = nearest-none c.args.s.now c.args.start.0 c.args.high

pub loop-i-preserved : goal.loop-i-preserved
loop-i-preserved c =
    let a = c.args in let i : ℕ = c.loop-i.i in
    let e : c.smaller-first.result ≡ min _ c.loop-i.first = c.smaller-first.ensures ∙ ap (λ (n : ℕ). min n c.loop-i.first) c.place_of.ensures in
    subst (λ (n : ℕ). Nearest a.s.now a.start.0 a.high (i + 1) n) (sym e) (nearest-step a.s.now a.start.0 a.high i c.loop-i.first (omega arith) c.loop-i.invariant)

pub returns : goal.returns
returns c =
    let a = c.args in
    let e : c.loop-i.i ≡ 64 = omega arith in
    block-is a.s.now a.start.0 a.high c.loop-i.first (omega arith) (rw e at c.loop-i.invariant)
