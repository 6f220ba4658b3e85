-- The goals of `digits_of`. Assumes nothing.
use Rattle.std.proofs.Common.{arith}
use Rattle.base_codes.specs.CodeMeaning.{code_meant}
use Rattle.base_codes.proofs.CodeLaws.{number-most, number-bytes}
use Rattle.base_codes.proofs.digits_of.Goals as goal

pub overflow_add-first : goal.overflow_add-first
overflow_add-first c = omega (arith, number-most (code_meant c.args.code), c.number_of-n.ensures)

pub overflow_add-second : goal.overflow_add-second
overflow_add-second c = omega (arith, number-most (code_meant c.args.code), c.number_of-n.ensures)

pub returns : goal.returns
returns c = rw c.number_of-n.ensures (number-bytes (code_meant c.args.code))
