-- Answers for `Draft::add`: a refused draft stays, a field is refused, or it is put with its mark. Assumes nothing.
use Rattle.std.proofs.Common.{rules}
use Rattle.write_line.proofs.LineSpace.{refused-stays, field-refused, field-put}
use Rattle.write_line.proofs.Draft.add.Goals as goal

pub returns-in_default : goal.returns-in_default
returns-in_default c = refused-stays c.args.self.now _ c.in_default.is c.args.f.now c.args.mark

pub returns-then-not-has_room : goal.returns-then-not-has_room
returns-then-not-has_room c = field-refused c.args.self.now c.in-Ok.want c.in-Ok.is c.args.f.now c.args.mark c.refuse.ensures (search rules)

pub returns : goal.returns
returns c = field-put c.args.self.now c.in-Ok.want c.in-Ok.is (search rules) (search rules) c.args.f.now c.args.mark c.take_field-self.result (search rules) (search rules) c.take_field-self.ensures c.put_at.ensures
