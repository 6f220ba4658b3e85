-- The receiver that is found in a record which is read as a 02 is the one that the rules read there. Assumes nothing.
use mathlib.Core.Path.{◌≡◌, sym, ap}
use mathlib.Core.List.{List}
use Rattle.rules.specs.Bytes.{Bytes, same_bytes}
use Rattle.rules.specs.Outcome.{fine}
use Rattle.rules.specs.Lines.{group_header, Record}
use Rattle.rules.specs.Grammar.{ultimate_receiver}
use Rattle.rules.specs.Records.{Field, the, walk_record}
use Rattle.find_field.specs.FieldSearch.{Found}
use Rattle.find_field.proofs.SearchAgrees.{found-is}
use Rattle.join_receivers.specs.NamedReceiver.{named}

pub named-is : (name : Bytes) (r : Record) (fs : List Field) → walk_record group_header r ≡ fine fs → named name r ≡ same_bytes name (the ultimate_receiver fs).bytes
named-is name r fs walked = ap (λ (x : Found). same_bytes name x.bytes) (sym (found-is ultimate_receiver group_header r fs walked))
