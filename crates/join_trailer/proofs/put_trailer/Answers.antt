-- `join_trailer::put_trailer` meets its contract. Assumes nothing.
use mathlib.Core.List.{[], ◌∷◌, ◌++◌}
use Rattle.rules.specs.Bytes.{Bytes, LF, comma, slash}
use Rattle.rules.specs.Numbers.{decimal, total_bytes}
use Rattle.base_quantities.specs.QuantityMeanings.{sum_meant}
use Rattle.join_trailer.specs.FreshTrailer.{last_line}
use Rattle.base_slices.proofs.WroteLaws.{wrote-first, wrote-part, wrote-last}
use Rattle.join_trailer.proofs.put_trailer.Goals as goal

pub returns : goal.returns
unfolding last_line
returns c =
    let a = c.args in
    let last : Bytes = slash ∷ LF ∷ [] in
    let records : Bytes = comma ∷ decimal a.records.0 in
    let groups : Bytes = comma ∷ decimal a.groups.0 in
    let total = total_bytes (sum_meant a.total) in
    let w₁ = wrote-first (57 ∷ 57 ∷ comma ∷ []) (total ++ (groups ++ (records ++ last))) a.out.now c.put-o.result c.put-o.new.out c.requires c.put-o.ensures in
    let w₂ = wrote-part _ _ _ total (groups ++ (records ++ last)) _ _ _ w₁ c.put_total-o.ensures in
    let w₃ = wrote-part _ _ _ groups (records ++ last) _ _ _ w₂ c.put_digits_after-o.ensures in
    let w₄ = wrote-part _ _ _ records last _ _ _ w₃ c.put_digits_after-o-2.ensures in
    wrote-last _ _ _ last _ _ _ w₄ c.put-o-2.ensures
