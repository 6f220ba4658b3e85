-- Envelopes: records that hold parts, as a file holds groups, a group accounts, an account details; and what is found in one. Assumes nothing.
use Rattle.std.specs.Prelude.{ℕ, ◌+◌, ◌<◌, ◌≤◌, ◌≡◌, true, false, not, List, [], ◌∷◌, ◌++◌, T, Result, Ok, Err, length, take, drop}
use Rattle.rules.specs.Bytes.{Bytes, same_bytes}
use Rattle.rules.specs.Outcome.{Refusal, Outcome, refused, fine, ◌>>=◌}
use Rattle.rules.specs.Lines.{Code, continuation, lines_of, code_bytes, Record, record_size, record_bytes, file_records}
use Rattle.rules.specs.Order.{among}
use Rattle.rules.specs.Parts.{heads, cut_at, Placed, part_in}
use Rattle.rules.specs.Combine.{concat}
use Rattle.rules.specs.Answers.{PartAnswer, part_answer}
use Rattle.laws.specs.LawWords.{All, Begins, IsRecord}
use Rattle.base_quantities.specs.declared.Place.{Place}
use Rattle.base_refusals.specs.declared.Refusal as code
use Rattle.base_refusals.specs.RefusalMeaning.{refusal_meant}
use Rattle.read_lines.specs.LineLengths.{first_record}
use Rattle.find_lines.specs.LinesOfCode.{bytes_before}
use Rattle.part_groups.specs.PartMeaning.{Inside}

-- c opens a part, d ends the envelope, and within a part the codes after the first are others
pub record Apart (c d : Code) (others : List Code) : Type 0 where
  pub c-else : T (not (among c others))
  pub d-else : T (not (among d others))
  pub c-88 : T (not (among c (continuation ∷ [])))
  pub d-88 : T (not (among d (continuation ∷ [])))
  pub d-c : T (not (among c (d ∷ [])))

-- parts that open with code c, then a last record of code d
pub record Ahead (c d : Code) (others : List Code) (ps : List (List Record)) (rs : List Record) : Type 0 where
  pub last : Record
  pub whole : rs ≡ concat ps ++ (last ∷ [])
  pub is_last : T (heads d last)
  pub opens : All (Begins c others) ps
  pub are-records : All IsRecord (concat ps)

-- the same after a first record
pub record Envelope (c d : Code) (rs : List Record) : Type 0 where
  pub others : List Code
  pub apart : Apart c d others
  pub first : Record
  pub parts : List (List Record)
  pub rest : List Record
  pub whole : rs ≡ first ∷ rest
  pub ahead : Ahead c d others parts rest
  pub cut : cut_at c d rs ≡ record { waiting = first ∷ []; parts = parts }

-- the part that opens at `at` ends at e: after its first record, where the next line of either code starts; `cut_at` (rules/specs/Parts.antt) cuts there, joined by
-- `turn-of` (proofs/PartTurns.antt)
pub record PartEnds (c d : Code) (s : Bytes) (at e : ℕ) : Type 0 where
  pub opens : same_bytes (code_bytes c) (take 3 (drop at s)) ≡ true
  pub first_end : ℕ
  pub first : first_end ≡ at + record_size (first_record (lines_of (drop at s)))
  pub end : e ≡ first_end + bytes_before c d (lines_of (drop first_end s))
  pub past : at < e
  pub within : e ≤ length s

-- or none opens there: 17
abbrev pub EndsAt : Code → Code → Bytes → ℕ → Result Place code.Refusal → Type 0
EndsAt c d s at (Ok e) = PartEnds c d s at e.0
EndsAt c d s at (Err why) = (same_bytes (code_bytes c) (take 3 (drop at s)) ≡ false) × (refusal_meant why ≡ record { number = 17; place = 0 })

-- where these bytes are an envelope: its part of number n, as `part_in` of `cut_at` (rules/specs/Parts.antt) gives it; for a file joined to `group_part` by
-- `group-accepted` (proofs/PartsStand.antt)
pub record Finds (c d : Code) (xs : Bytes) (n : ℕ) (r : PartAnswer) : Type 0 where
  pub found : Envelope c d (file_records xs) → r ≡ part_answer (part_in 0 (cut_at c d (file_records xs)) n)
  pub inside : Inside xs r

-- a part that is an envelope, and a slice of the file that reads as itself
pub record Stands (c d : Code) (file : Bytes) (x : Placed) : Type 0 where
  pub slice : take (length (record_bytes x.records)) (drop x.place file) ≡ record_bytes x.records
  pub alone : file_records (record_bytes x.records) ≡ x.records
  pub envelope : Envelope c d x.records

-- an outcome that is refused, if at all, by a number that isn't 0
abbrev pub Numbered : {A : Type 0} → Outcome A → Type 0
Numbered o = (why : Refusal) → o ≡ refused why → 0 < why.number

-- an outcome that is such a part, or a refusal by a number that isn't 0
pub record Outer (c d : Code) (file : Bytes) (o : Outcome Placed) : Type 0 where
  pub stands : (x : Placed) → o ≡ fine x → Stands c d file x
  pub refuses : Numbered o

-- where the outer part says so: its part of number n, or that refusal, as `account_at` and `detail_part_at` (rules/specs/Parts.antt) give them; joined by
-- `outer-group` and `outer-account` (proofs/PartsStand.antt)
pub record FindsWithin (c d : Code) (file : Bytes) (outer : PartAnswer) (n : ℕ) (r : PartAnswer) : Type 0 where
  pub found : (o : Outcome Placed) → outer ≡ part_answer o → Outer c d file o → r ≡ part_answer (o >>= λ x. part_in x.place (cut_at c d x.records) n)
  pub inside : Inside file r
