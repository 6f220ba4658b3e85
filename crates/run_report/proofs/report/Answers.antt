-- `run_report::report` meets its contract. Assumes nothing.
use Rattle.std.proofs.Common.{arith, rules}
use Rattle.read_file.specs.FileMeanings.{verdict_meant}
use Rattle.run_report.proofs.ReportLaws.{report-long, put-judged}
use Rattle.run_report.proofs.report.Goals as goal

pub returns-then-input-gt-MOST_INPUT : goal.returns-then-input-gt-MOST_INPUT
returns-then-input-gt-MOST_INPUT c = rw (report-long c.args.input.now (omega arith)) (c.put.ensures, omega arith)

pub returns : goal.returns
returns c =
    put-judged c.args.input.now (verdict_meant c.read.result) _ _ c.args.out.now c.put_verdict-length.result c.put-2.result _ (omega arith)
    c.read.ensures (search rules) c.put_verdict-length.ensures c.put-2.ensures
