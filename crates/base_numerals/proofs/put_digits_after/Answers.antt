-- The goals of `put_digits_after`. Assumes nothing.
use Rattle.std.proofs.Common.{arith}
use Rattle.base_numerals.proofs.PutLaws.{put-short, put_first, put-at-most}
use Rattle.base_numerals.proofs.put_digits_after.Goals as goal

pub returns-then-out-k : goal.returns-then-out-k
returns-then-out-k c = put-short _ _ (omega arith)

pub overflow_add-result : goal.overflow_add-result
overflow_add-result c = omega (arith, put-at-most c.put_digits.ensures)

pub returns : goal.returns
returns c = put_first _ _ _ _ _ (omega arith) c.put_digits.ensures
