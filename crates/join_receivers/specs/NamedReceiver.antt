-- Whether a 02 names a receiver, whatever its lines. Assumes nothing.
use Rattle.std.specs.Prelude.{Bool}
use Rattle.rules.specs.Bytes.{Bytes, same_bytes}
use Rattle.rules.specs.Lines.{group_header, Record}
use Rattle.rules.specs.Grammar.{ultimate_receiver, fields_of}
use Rattle.find_field.specs.FieldSearch.{seek_lines}

-- stands for the test of one step of `groups_for` (rules/specs/Split.antt), `same_bytes name (receiver_of g)`; joined by `named-is` (proofs/NamedLaws.antt)
-- and `receiver-is` (join_groups/proofs/ReceiverLaws.antt)
abbrev pub named : Bytes → Record → Bool
named name r = same_bytes name (seek_lines ultimate_receiver (fields_of group_header) r).bytes
