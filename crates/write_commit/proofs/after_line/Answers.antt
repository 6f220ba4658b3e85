-- Answers for `after_line`: what the line adds is small, and so are the state's summaries. Assumes nothing.
use Rattle.base_codes.specs.CodeMeaning.{code_meant}
use Rattle.base_quantities.specs.QuantityMeanings.{sum_meant}
use Rattle.base_totals.specs.SummaryMeaning.{Small}
use Rattle.write_state.specs.WriterMeaning.{writer_meant}
use Rattle.write_commit.proofs.StateSums.{small_line, to-file, to-group, to-account, state-is}
use Rattle.write_commit.proofs.after_line.Goals as goal

pub returns : goal.returns
returns c =
    let w = c.args.w in
    let this = c.adding-this.result in
    let small : Small this = small_line this (code_meant c.args.code) (sum_meant c.args.sum) c.adding-this.ensures c.requires.1 in
    state-is (writer_meant w) (code_meant c.args.code) (sum_meant c.args.sum) c.args.items c.args.n c.phase_after-phase.ensures c.adding-this.ensures
    c.group_open.ensures c.account_open.ensures (to-file w c.requires.0 this small c.add-file.ensures) (to-group w c.requires.0 this small c.add-group.ensures)
    (to-account w c.requires.0 this small c.add-account.ensures) c.while_open.ensures c.while_open-2.ensures
