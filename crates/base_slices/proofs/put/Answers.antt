-- The goals of `put`. Assumes nothing.
use Rattle.std.proofs.Common.{◌≡◌, sym, ap, ◌∙◌, length, arith}
use lib.ListN.{set}
use lib.Seq.{paste-zero}
use Rattle.base_slices.proofs.WroteLaws.{put-turn, put_all}
use Rattle.base_slices.proofs.put.Goals as goal

pub loop-i-init : goal.loop-i-init
loop-i-init g c = paste-zero c.args.out.now 0 c.args.src.now

pub loop-i-preserved : goal.loop-i-preserved
loop-i-preserved g c =
    let l = c.loop-i in
    ap (set l.out l.i) c.index-src-i.is
    ∙ put-turn c.args.out.now c.args.src.now l.out l.i c.index-src-i.result (omega (arith, c.if-out-src.false, c.loop-i-test.true)) c.loop-i-test.true l.invariant

pub returns : goal.returns
returns g c =
    let l = c.loop-i in
    let all : l.i ≡ length c.args.src.now = omega (arith, c.loop-i-test.false, l.auto.i-end) in
    rw (sym all) (put_all c.args.out.now c.args.src.now l.out l.i c.if-out-src.false all l.invariant)
