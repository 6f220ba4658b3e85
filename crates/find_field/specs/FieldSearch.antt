-- The first field of a kind among those that the walk over a record yields. Assumes nothing.
use Rattle.std.specs.Prelude.{ℕ, cond, List, []}
use Rattle.rules.specs.Bytes.{Bytes}
use Rattle.rules.specs.Lines.{lines_of, detail, Record}
use Rattle.rules.specs.Grammar.{Kind, same_kind, fields_of}
use Rattle.find_next.specs.FieldTrace.{Trace, stops, ends, yields, trace_lines}

-- a field's place and bytes; 0 and none where there is no such field
pub record Found : Type 0 where
  pub place : ℕ
  pub bytes : Bytes

abbrev pub nothing_found : Found
nothing_found = record { place = 0; bytes = [] }

-- the first of kind k that is yielded before the record's end or a refusal
unfoldable pub sought_in : Kind → Trace → Found
sought_in k (stops why) = nothing_found
sought_in k ends = nothing_found
sought_in k (yields f t) = cond (same_kind k f.kind) (record { place = f.place; bytes = f.bytes }) (sought_in k t)

-- in a record's lines, where these kinds are wanted; stands for `the k` of what `walk_record` gives (rules/specs/Records.antt), joined by `found-is`
-- (proofs/SearchAgrees.antt)
unfoldable pub seek_lines : Kind → List Kind → Record → Found
seek_lines k ks r = sought_in k (trace_lines 0 ks 0 r)

-- in the bytes of a detail's record; stands for `the k` of the fields that `detail_in` reads (rules/specs/Parts.antt), joined by `found-is`
unfoldable pub in_detail : Kind → Bytes → Found
in_detail k rec = seek_lines k (fields_of detail) (lines_of rec)
