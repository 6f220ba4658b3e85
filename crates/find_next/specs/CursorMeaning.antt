-- What is left to yield where the walk over a record stands somewhere, and what `next_field` promises. Assumes nothing.
use Rattle.std.specs.Prelude.{ℕ, suc, ◌+◌, ◌-◌, ◌*◌, ◌≤◌, ◌<◌, ◌≡◌, Bool, true, false, cond, ◌&&◌, ◌||◌, List, [], ◌∷◌, leb, ltb, length, take, drop, Option, Some, None, Result, Ok, Err}
use Rattle.std.proofs.Math.Seq.{slice}
use Rattle.rules.specs.Bytes.{Bytes, same_bytes}
use Rattle.rules.specs.Lines.{Line, size_of, lines_of, code_bytes, begins, continuation}
use Rattle.rules.specs.Cells.{cells_from}
use Rattle.rules.specs.Grammar.{Kind, may_lack}
use Rattle.base_refusals.specs.declared.Reason.TheVariants as reasons
use Rattle.base_refusals.specs.declared.Refusal.{Refusal}
use Rattle.base_refusals.specs.RefusalMeaning.{refusal_meant}
use Rattle.base_quantities.specs.declared.Place.{Place}
use Rattle.read_wanted.specs.declared.want.Want.{Want}
use Rattle.read_wanted.specs.Wants.{wanted_of}
use Rattle.find_next.specs.declared.Cursor.{Cursor}
use Rattle.find_next.specs.declared.FieldStep.{FieldStep}
use Rattle.find_next.specs.FieldTrace.{Trace, stops, ends, yields, field_at, trace_cells, trace_lines}

-- the record in front of bytes that has so many bytes or more: the lines that start among them, and the 88 lines after these; p: where the first line starts.
-- Stands for `first_record` (rules' first record, read_lines/specs/LineLengths.antt) where at least one byte is known to be its own, and for all lines where all
-- bytes are; joined by `first-own` and `all_own` (proofs/OwnLines.antt)
unfoldable pub own_lines : ℕ → ℕ → List Line → List Line
own_lines least p [] = []
own_lines least p (l ∷ ls) = cond (ltb p least || begins continuation l) (l ∷ own_lines least (p + size_of l) ls) []

-- the bytes from p on begin with such a line
abbrev pub own_line : ℕ → ℕ → Bytes → Bool
own_line least p xs = ltb 0 (length xs) && (ltb p least || same_bytes (code_bytes continuation) (take 3 xs))

-- the lines from n on
abbrev pub lines_from : Bytes → ℕ → ℕ → List Kind → ℕ → Trace
lines_from rec least n ks s = trace_lines n ks s (own_lines least n (lines_of (drop n rec)))

-- before the field at a, in a line that ends at e; or, where a is past e, before the line at n
unfoldable pub trace_from : Bytes → ℕ → List Kind → (a e n s : ℕ) → Trace
trace_from rec least ks a e n s = cond (leb a e) (trace_cells ks s (cells_from a (slice a e rec)) (lines_from rec least n)) (lines_from rec least n ks s)

unfoldable pub trace_of : Bytes → ℕ → Cursor → Trace
trace_of rec least c = trace_from rec least (wanted_of c.want) c.at.0 c.end.0 c.line.0 c.slash.0

-- the answer, where these kinds are wanted
abbrev pub next_meant : Bytes → ℕ → List Kind → Result (Option FieldStep) Refusal → Trace
next_meant rec least ks (Err why) = stops (refusal_meant why)
next_meant rec least ks (Ok None) = ends
next_meant rec least ks (Ok (Some f)) = yields (field_at ks f.start.0 (take f.length (drop f.start.0 rec))) (trace_of rec least f.after)

-- where the walk stands in a line, or that it ends
abbrev pub ahead_meant : Bytes → ℕ → Result (Option Cursor) Refusal → Trace
ahead_meant rec least (Err why) = stops (refusal_meant why)
ahead_meant rec least (Ok None) = ends
ahead_meant rec least (Ok (Some c)) = trace_of rec least c

-- a walk that `before_record` began stands inside the record
pub record Inside (rec : Bytes) (c : Cursor) : Type 0 where
  pub in-line : c.end.0 ≤ c.line.0
  pub in-record : c.line.0 ≤ length rec
  pub slashed : c.slash.0 ≤ length rec

-- how much is left of the record: falls with every field
unfoldable pub left_from : Bytes → (a e n : ℕ) → ℕ
left_from rec a e n = cond (leb a e) (suc (length rec - a)) (length rec - n)

abbrev pub left_of : Bytes → Cursor → ℕ
left_of rec c = left_from rec c.at.0 c.end.0 c.line.0

-- a place that a caller may add to the record's start: in the record or, where it has a line, right after it
abbrev pub Near : Bytes → ℕ → Type 0
Near rec p = (p ≤ length rec + 3) × (p ≤ 3 * length rec)

-- after a field the walk is still inside, and nearer to the end
abbrev pub Onward : Bytes → Cursor → Result (Option FieldStep) Refusal → Type 0
Onward rec c (Err why) = Inside rec c → Near rec why.place.0
Onward rec c (Ok None) = Unit {0}
Onward rec c (Ok (Some f)) = Inside rec c → (f.start.0 + f.length ≤ length rec) × Inside rec f.after × (left_of rec f.after < left_of rec c)

-- in a line, before the field at its place
pub record Takes (rec : Bytes) (least : ℕ) (c : Cursor) (r : Result (Option FieldStep) Refusal) : Type 0 where
  pub answer : trace_cells (wanted_of c.want) c.slash.0 (cells_from c.at.0 (slice c.at.0 c.end.0 rec)) (lines_from rec least c.line.0) ≡ next_meant rec least (wanted_of c.want) r
  pub onward : c.at.0 ≤ c.end.0 → Onward rec c r

-- in a line there is a next field, or a refusal
abbrev pub taken : Result FieldStep Refusal → Result (Option FieldStep) Refusal
taken (Err why) = Err why
taken (Ok f) = Ok (Some f)

-- whatever is known of the record
abbrev pub TakesNext : Bytes → Cursor → Result FieldStep Refusal → Type 0
TakesNext rec c r = (least : ℕ) → Takes rec least c (taken r)

-- in a line, with the same wanted; and inside as before, no farther from the end
abbrev pub Ready : Bytes → Cursor → Result (Option Cursor) Refusal → Type 0
Ready rec c (Err why) = Inside rec c → Near rec why.place.0
Ready rec c (Ok None) = Unit {0}
Ready rec c (Ok (Some d)) = (d.want ≡ c.want) × (d.at.0 ≤ d.end.0) × (Inside rec c → Inside rec d × (left_of rec d ≤ left_of rec c))

-- where no line is left: what is wanted, the last slash that ended a line, and the answer
abbrev pub Ends : Want → Place → Result Unit Refusal → Type 0
Ends w s (Err why) = (may_lack (wanted_of w) ≡ false) × (why ≡ record { reason = reasons.WrongField; place = s })
Ends w s (Ok u) = may_lack (wanted_of w) ≡ true

-- a record's bytes, where the walk stands, and where it stands in a line
pub record Enters (rec : Bytes) (least : ℕ) (c : Cursor) (r : Result (Option Cursor) Refusal) : Type 0 where
  pub answer : trace_of rec least c ≡ ahead_meant rec least r
  pub ready : Ready rec c r

-- a record's bytes, where the walk stands, and the answer
pub record Steps (rec : Bytes) (least : ℕ) (c : Cursor) (r : Result (Option FieldStep) Refusal) : Type 0 where
  pub answer : trace_of rec least c ≡ next_meant rec least (wanted_of c.want) r
  pub onward : Onward rec c r
