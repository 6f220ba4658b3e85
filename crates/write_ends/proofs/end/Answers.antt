-- Answers for `end`: its drafted line is committed. Assumes nothing.
use Rattle.std.proofs.Common.{◌∙◌}
use Rattle.base_codes.specs.CodeMeaning.{code_meant}
use Rattle.base_totals.specs.SummaryMeaning.{summary_meant}
use Rattle.write_state.specs.WriterMeaning.{writer_meant}
use Rattle.write_ends.proofs.EndLaws.{end-answers}
use Rattle.write_ends.proofs.end.Goals as goal

pub returns : goal.returns
returns c =
    c.commit.ensures
    ∙ end-answers (writer_meant c.args.w) (code_meant c.args.code) (summary_meant c.args.summary) c.args.count.0 c.add-records.result.0 c.args.out.now _ _ c.none.ensures
    c.add-records.ensures c.trailer-line.ensures
