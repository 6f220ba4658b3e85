-- Answers for `Draft::begin`: the code's bytes stand in front. Assumes nothing.
use Rattle.base_codes.specs.CodeMeaning.{code_meant, bytes_meant}
use Rattle.write_line.proofs.LineSpace.{begin-put}
use Rattle.write_line.proofs.Draft.begin.Goals as goal

pub returns : goal.returns
returns c = begin-put (code_meant c.args.code) c.args.want (bytes_meant c.digits_of-digits.result) c.digits_of-digits.ensures c.put_at.ensures
