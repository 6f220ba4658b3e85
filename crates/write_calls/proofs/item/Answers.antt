-- Answers for `item`: its drafted line is committed as the rules say. Assumes nothing.
use Rattle.std.proofs.Common.{◌∙◌}
use Rattle.write_state.specs.WriterMeaning.{writer_meant}
use Rattle.write_records.specs.ItemMeaning.{item_meant}
use Rattle.write_calls.proofs.CallLaws.{item-written}
use Rattle.write_calls.proofs.item.Goals as goal

pub returns : goal.returns
returns c = c.commit.ensures ∙ item-written (writer_meant c.args.w) c.args.out.now _ _ (item_meant c.args.item) c.sum_given-sum.ensures c.draft.ensures
