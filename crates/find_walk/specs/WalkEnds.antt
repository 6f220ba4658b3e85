-- Where the walk over a record ends that goes up to a field of a kind, and the numbers of the fields that it passes. Assumes nothing.
use Rattle.std.specs.Prelude.{ℕ, ◌+◌, ◌≤◌, ◌<◌, ◌≡◌, cond, List, [], ◌∷◌, ◌++◌, eqb, length, take, drop, Result, Ok, Err}
use Rattle.rules.specs.Bytes.{Bytes}
use Rattle.rules.specs.Outcome as outcome
use Rattle.rules.specs.Lines.{Code, lines_of}
use Rattle.rules.specs.Grammar.{kind_number, fields_of}
use Rattle.rules.specs.HandedOut.{handed_length}
use Rattle.base_refusals.specs.declared.Refusal.{Refusal}
use Rattle.base_refusals.specs.RefusalMeaning.{refusal_meant}
use Rattle.find_next.specs.FieldTrace.{Trace, stops, ends, yields, trace_lines}
use Rattle.find_next.specs.CursorMeaning.{own_lines}
use Rattle.find_walk.specs.declared.Reached.{Reached}
use Rattle.find_walk.specs.declared.Reached.TheVariants as reached

-- refused, with the place in the file; the record is over, after so many fields; or a field is met, by its place in the record and its bytes
pub data WalkEnd : Type 0 where
  stopped : outcome.Refusal → WalkEnd
  over_after : ℕ → WalkEnd
  met_at : ℕ → Bytes → WalkEnd

-- after n fields more
abbrev pub after : ℕ → WalkEnd → WalkEnd
after n (stopped why) = stopped why
after n (over_after m) = over_after (n + m)
after n (met_at p bs) = met_at p bs

-- the first field of the kind with number k, or the record's end or a refusal before it; the record starts at `start`. With a kind that no field has it stands for the
-- count or the refusal of `walk_record` (rules/specs/Records.antt), joined by `end_is` (part_fields/proofs/NumberLaws.antt); with one that is sought, for the first such
-- field of `walk_record`, joined by `walk-found` (find_field/proofs/WalkFound.antt) and `found-is` (find_field/proofs/SearchAgrees.antt)
unfoldable pub walk_end : ℕ → ℕ → Trace → WalkEnd
walk_end k start (stops why) = stopped (record { number = why.number; place = start + why.place })
walk_end k start ends = over_after 0
walk_end k start (yields f t) = cond (eqb k (kind_number f.kind)) (met_at f.place f.bytes) (after 1 (walk_end k start t))

-- the numbers of the fields before it: kind, place in the file, length; with a kind that no field has they stand for `handed` (rules/specs/HandedOut.antt), joined by
-- `numbers-are` (part_fields/proofs/NumberLaws.antt)
unfoldable pub numbers_passed : ℕ → ℕ → Trace → List ℕ
numbers_passed k start (stops why) = []
numbers_passed k start ends = []
numbers_passed k start (yields f t) =
    cond (eqb k (kind_number f.kind)) [] (kind_number f.kind ∷ (start + f.place) ∷ handed_length f ∷ numbers_passed k start t)

-- numbers at the front of a slice, three after three, as long as three find room; where all do, that is the slice of `fields_answer` (rules/specs/HandedOut.antt), joined by
-- `put_all` (part_fields/proofs/NumberLaws.antt)
unfoldable pub put_threes : List ℕ → List ℕ → List ℕ
put_threes (k ∷ p ∷ l ∷ ns) (a ∷ b ∷ c ∷ out) = k ∷ p ∷ l ∷ put_threes ns out
put_threes (k ∷ p ∷ l ∷ ns) (a ∷ b ∷ []) = a ∷ b ∷ []
put_threes (k ∷ p ∷ l ∷ ns) (a ∷ []) = a ∷ []
put_threes (k ∷ p ∷ l ∷ ns) [] = []
put_threes (k ∷ p ∷ []) out = out
put_threes (k ∷ []) out = out
put_threes [] out = out

-- three numbers from `at` on, if they find room: the slice before and after, and where the next ones go
pub record PutsThree (at k p l : ℕ) (before after : List ℕ) (r : ℕ) : Type 0 where
  pub put : at + 3 ≤ length before → (after ≡ take at before ++ (k ∷ p ∷ l ∷ drop (at + 3) before)) × (r ≡ at + 3)
  pub full : length before < at + 3 → (after ≡ before) × (r ≡ at)

-- what is yielded of the record of this code in front of these bytes, of which so many are known to be its own
abbrev pub trace_of_record : Bytes → ℕ → Code → Trace
trace_of_record rec least c = trace_lines 0 (fields_of c) 0 (own_lines least 0 (lines_of rec))

-- the answer of the code
abbrev pub reached_meant : Bytes → Result Reached Refusal → WalkEnd
reached_meant rec (Err why) = stopped (refusal_meant why)
reached_meant rec (Ok (reached.Over n)) = over_after n.0
reached_meant rec (Ok (reached.Field p n)) = met_at p.0 (take n (drop p.0 rec))

-- a field stands in the record
abbrev pub StandsIn : Bytes → Result Reached Refusal → Type 0
StandsIn rec (Err why) = Unit {0}
StandsIn rec (Ok (reached.Over n)) = Unit {0}
StandsIn rec (Ok (reached.Field p n)) = p.0 + n ≤ length rec

-- the bytes from the record's start on, that start, how many bytes are known, its code, the kind sought, the slice before and after, and the answer
pub record WalksTo (rec : Bytes) (start least : ℕ) (c : Code) (k : ℕ) (before after : List ℕ) (r : Result Reached Refusal) : Type 0 where
  pub answer : reached_meant rec r ≡ walk_end k start (trace_of_record rec least c)
  pub out : after ≡ put_threes (numbers_passed k start (trace_of_record rec least c)) before
  pub inside : StandsIn rec r
