-- `join_combine::put_three` meets its contract. Assumes nothing.
use mathlib.Core.List.{◌++◌}
use Rattle.base_slices.proofs.WroteLaws.{wrote-first, wrote-part, wrote-last}
use Rattle.join_combine.proofs.put_three.Goals as goal

pub returns : goal.returns
returns c =
    let x = c.args.x.now in
    let y = c.args.y.now in
    let z = c.args.z.now in
    let w₁ = wrote-first x (y ++ z) c.args.out.now c.put-o.result c.put-o.new.out c.requires c.put-o.ensures in
    let w₂ = wrote-part _ _ _ y z _ _ _ w₁ c.put-o-2.ensures in
    wrote-last _ _ _ z _ _ _ w₂ c.put-o-3.ensures
