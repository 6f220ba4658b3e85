-- `run_report::put_summary` meets its contract. Assumes nothing.
use Rattle.std.proofs.Common.{◌≤◌, [], ◌∷◌, ◌++◌, length, arith}
use Rattle.rules.specs.Bytes.{Bytes, bytes, LF}
use Rattle.rules.specs.Numbers.{total_bytes}
use Rattle.rules.specs.Outcome.{fine}
use Rattle.rules.specs.Report.{as_line, verdict_words}
use Rattle.base_totals.specs.SummaryMeaning.{summary_meant}
use Rattle.base_slices.proofs.WroteLaws.{wrote-first, wrote-part, wrote-last, has_room}
use Rattle.run_report.specs.PutLines.{counts, longest_report}
use Rattle.run_report.proofs.LineParts.{summary-parts, summary-most}
use Rattle.run_report.proofs.put_summary.Goals as goal

pub put_counts-o-requires : goal.put_counts-o-requires
put_counts-o-requires c =
    let s = summary_meant c.args.summary in
    let rest : Bytes = counts s ++ (LF ∷ []) in
    let most = rw (summary-parts s) at (summary-most s (omega arith) (omega arith) (omega arith) (omega arith) (omega arith) (omega arith)) in
    let w₁ = wrote-first (bytes "ok ") (total_bytes s.sum ++ rest) c.args.out.now c.put-o.result c.put-o.new.out (omega (arith, most, c.requires)) c.put-o.ensures in
    let w₂ = wrote-part _ _ _ (total_bytes s.sum) rest _ _ _ w₁ c.put_total-o.ensures in
    has_room _ _ _ (counts s) (LF ∷ []) _ w₂

pub returns : goal.returns
returns c =
    let s = summary_meant c.args.summary in
    let rest : Bytes = counts s ++ (LF ∷ []) in
    let most = rw (summary-parts s) at (summary-most s (omega arith) (omega arith) (omega arith) (omega arith) (omega arith) (omega arith)) in
    let w₁ = wrote-first (bytes "ok ") (total_bytes s.sum ++ rest) c.args.out.now c.put-o.result c.put-o.new.out (omega (arith, most, c.requires)) c.put-o.ensures in
    let w₂ = wrote-part _ _ _ (total_bytes s.sum) rest _ _ _ w₁ c.put_total-o.ensures in
    let w₃ = wrote-part _ _ _ (counts s) (LF ∷ []) _ _ _ w₂ c.put_counts-o.ensures in
    rw (summary-parts s) (wrote-last _ _ _ (LF ∷ []) _ _ _ w₃ c.put-o-2.ensures, most)
