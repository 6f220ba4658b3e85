-- A group's receiver is what its 02 names. Assumes nothing.
use mathlib.Core.Path.{◌≡◌}
use mathlib.Core.List.{List}
use Rattle.rules.specs.Bytes.{Bytes, same_bytes}
use Rattle.rules.specs.Lines.{Record, group_header}
use Rattle.rules.specs.Parts.{fields_in, first_fields, receiver_of}
use Rattle.join_receivers.specs.NamedReceiver.{named}
use Rattle.join_receivers.proofs.NamedLaws.{named-is}
use Rattle.join_groups.specs.GroupsTaken.{first_in}
use Rattle.join_groups.proofs.GroupsAhead.{Stands}

pub receiver-is : (name : Bytes) (g : List Record) → Stands g → named name (first_in g) ≡ same_bytes name (receiver_of g)
unfolding receiver_of first_fields first_in
receiver-is name g s =
    let e = s.is-group.enclosed in
    rw e.whole (named-is name e.header (fields_in group_header e.header) s.header-walked)
