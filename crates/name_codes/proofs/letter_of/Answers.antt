-- The goals of `letter_of`. Assumes nothing.
use Rattle.std.proofs.Common.{sym, arith}
use Rattle.rules.specs.CodeList.{entry_in, entry_of}
use Rattle.rules.proofs.CodeLaws.{over-unlisted}
use Rattle.name_codes.specs.ClassMeaning.{entry_meant}
use Rattle.name_codes.proofs.TableLaws.{entries_from, letter_at}
use Rattle.name_codes.proofs.letter_of.Goals as goal

pub returns-then-code-gt999 : goal.returns-then-code-gt999
unfolding entry_meant
returns-then-code-gt999 c = sym (over-unlisted c.args.code (omega arith))

pub returns : goal.returns
unfolding entries_from entry_in entry_of
returns c = letter_at c.args.code (omega arith)
