-- A detail's first text piece, by the search in its record. Assumes nothing.
use Rattle.std.specs.Prelude.{ℕ, ◌+◌, ◌≤◌, ◌≡◌, cond, length, take, drop}
use Rattle.rules.specs.Bytes.{Bytes, slash, just}
use Rattle.rules.specs.Grammar.{text}
use Rattle.part_groups.specs.declared.Part.{Part}
use Rattle.find_field.specs.FieldSearch.{Found, nothing_found, in_detail}

-- the piece of a detail that stands at p; a lone slash is none; stands for `text_place` and `text_bytes` of `detail_in` (rules/specs/Parts.antt), joined by
-- `answer-is` (proofs/DetailLaws.antt)
unfoldable pub piece_at : ℕ → Found → Found
piece_at p x = cond (just slash x.bytes) nothing_found (record { place = p + x.place; bytes = x.bytes })

-- of the detail of `size` bytes that starts at `from`
pub record TextIs (file : Bytes) (from size : ℕ) (r : Part) : Type 0 where
  pub answer : record { place = r.start.0; bytes = take r.length (drop r.start.0 file) } ≡ piece_at from (in_detail text (take size (drop from file)))
  pub inside : r.start.0 + r.length ≤ length file
