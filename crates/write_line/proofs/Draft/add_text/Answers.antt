-- Answers for `Draft::add_text`: a refused draft stays, a text is refused, or it is put. Assumes nothing.
use Rattle.std.proofs.Common.{rules}
use Rattle.write_line.proofs.LineSpace.{refused-text, text-refused, text-put}
use Rattle.write_line.proofs.Draft.add_text.Goals as goal

pub returns-then-is_err : goal.returns-then-is_err
returns-then-is_err c = refused-text c.args.self.now (search rules) c.args.t.now

pub returns-then-not-has_room : goal.returns-then-not-has_room
returns-then-not-has_room c = text-refused c.args.self.now (search rules) c.args.t.now c.refuse.ensures (search rules)

pub returns : goal.returns
returns c = text-put c.args.self.now (search rules) c.args.t.now c.if-is_empty.bytes.now (search rules) (search rules) (search rules) (search rules) c.put_at.ensures
