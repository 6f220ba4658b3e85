-- `run_report::put_refusal` meets its contract. Assumes nothing.
use Rattle.std.proofs.Common.{◌≤◌, [], ◌∷◌, ◌++◌, length, arith}
use Rattle.rules.specs.Bytes.{Bytes, bytes, LF}
use Rattle.base_refusals.specs.RefusalMeaning.{refusal_meant}
use Rattle.base_slices.proofs.WroteLaws.{wrote-first, wrote-part, wrote-last}
use Rattle.run_report.specs.PutLines.{figure}
use Rattle.run_report.proofs.LineParts.{refusal-parts, refusal-most}
use Rattle.run_report.proofs.put_refusal.Goals as goal

pub returns : goal.returns
returns c =
    let why = refusal_meant c.args.why in
    let rest : Bytes = figure why.place ++ (LF ∷ []) in
    let most = rw (refusal-parts why) at (refusal-most why (omega (arith, c.number.ensures)) (omega arith)) in
    let w₁ = wrote-first (bytes "refused") (figure why.number ++ rest) c.args.out.now c.put-o.result c.put-o.new.out (omega (arith, most, c.requires)) c.put-o.ensures in
    let w₂ = wrote-part _ _ _ (figure why.number) rest _ _ _ w₁ (rw c.number.ensures at c.put_digits_after-o.ensures) in
    let w₃ = wrote-part _ _ _ (figure why.place) (LF ∷ []) _ _ _ w₂ c.put_digits_after-o-2.ensures in
    rw (refusal-parts why) (wrote-last _ _ _ (LF ∷ []) _ _ _ w₃ c.put-o-2.ensures, most)
