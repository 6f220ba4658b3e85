-- What stands ahead in an accepted file, from a group's start on: groups, each with a 98 that states its numbers, and a 99. Assumes nothing.
use Prim.Native.Nat.{ℕ, ◌≤◌}
use mathlib.Core.Path.{◌≡◌}
use mathlib.Core.Bool.{true}
use mathlib.Core.List.{List, [], ◌∷◌, ◌++◌}
use mathlib.Core.Option.{some}
use lib.Dec.{T}
use lib.ListN.{length}
use Rattle.rules.specs.Bytes.{Bytes}
use Rattle.rules.specs.Numbers.{Sum, equals, magnitudes}
use Rattle.rules.specs.Limits.{most}
use Rattle.rules.specs.Outcome.{fine}
use Rattle.rules.specs.Lines.{group_header, group_trailer, file_trailer, Record, record_bytes, file_records}
use Rattle.rules.specs.Records.{walk_record}
use Rattle.rules.specs.Parts.{heads, groups_in, fields_in}
use Rattle.rules.specs.Combine.{summary_of_all, concat}
use Rattle.rules.specs.Split.{groups_for}
use Rattle.base_quantities.specs.QuantityMeanings.{sum_meant}
use Rattle.base_numerals.specs.PutBytes.{Put}
use Rattle.laws.specs.LawWords.{All, accounts_in, Controlled, IsGroup, Kept}
use Rattle.join_groups.specs.declared.Tally.{Tally}

-- a group of an accepted file: its shape, its records as they stand anywhere, its 02's fields, and what its 98 states
pub record Stands (g : List Record) : Type 0 where
  pub is-group : IsGroup g
  pub kept : Kept g
  pub header-walked : walk_record group_header is-group.enclosed.header ≡ fine (fields_in group_header is-group.enclosed.header)
  pub controlled : Controlled group_trailer (some (length (accounts_in g))) g

-- such groups, then a 99; their magnitudes are within the largest. It holds of an accepted file after its header: `opened` (proofs/GroupOpens.antt)
pub record Ahead (xs : Bytes) : Type 0 where
  pub trailer : Record
  pub is-trailer : T (heads file_trailer trailer)
  pub reads : file_records xs ≡ concat (groups_in xs) ++ (trailer ∷ [])
  pub groups : All Stands (groups_in xs)
  pub bounded : magnitudes (summary_of_all (concat (groups_in xs))).sum ≤ most

-- the numbers that these groups add, and their bytes: what `summary_of_all` (rules/specs/Combine.antt) has of them
pub record Tallied (gs : List (List Record)) (groups bytes : ℕ) (total : Sum) (records : ℕ) : Type 0 where
  pub count : groups ≡ (summary_of_all (concat gs)).groups
  pub size : bytes ≡ length (record_bytes (concat gs))
  pub sum : equals total (summary_of_all (concat gs)).sum ≡ true
  pub lines : records ≡ (summary_of_all (concat gs)).records
  pub few : records ≤ bytes

-- those of the groups ahead that are for this name
abbrev pub matching : Bytes → Bytes → List (List Record)
matching name xs = groups_for name (groups_in xs)

-- what `join_groups::take_groups` answers where these groups are to be taken: what they add, no more bytes than so many, and their bytes at the front of a
-- slice that has room for them
pub record Takes (gs : List (List Record)) (limit : ℕ) (before : Bytes) (r : Tally) (after : Bytes) : Type 0 where
  pub tallied : Tallied gs r.groups.0 r.bytes (sum_meant r.total) r.records.0
  pub inside : r.bytes ≤ limit
  pub put : length (record_bytes (concat gs)) ≤ length before → Put (record_bytes (concat gs)) before r.bytes after
