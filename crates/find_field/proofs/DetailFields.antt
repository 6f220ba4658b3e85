-- What the search finds is read as the rules read it: a field is seen only where it was judged good. Assumes nothing.
use Prim.Native.Nat.{ℕ, ◌+◌, ◌-◌}
use native.Mathlib.Omega.{arith}
use mathlib.Core.Path.{◌≡◌, refl, sym, ap, ◌∙◌}
use mathlib.Core.Bool.{Bool, true, false, cond}
use mathlib.Core.List.{List, [], ◌∷◌, ◌++◌}
use lib.Dec.{eqb}
use lib.ListN.{length, take, drop}
use Rattle.rules.specs.Bytes.{Bytes, is_empty, trimmed, all}
use Rattle.rules.specs.Numbers.{digits, number, number_from}
use Rattle.rules.specs.Amounts.{amount_in}
use Rattle.rules.specs.TypeCodes.{type_class}
use Rattle.rules.specs.Outcome.{fine}
use Rattle.rules.specs.Lines.{Line, size_of, lines_of, Code, detail, Record}
use Rattle.rules.specs.Cells.{Mark, at_comma, at_slash, at_line_end, Cell, mark_place, cells_of, leading_blanks}
use Rattle.rules.specs.Grammar.{Kind, amount, detail_type, total, records, same_kind, Judged, bad, good, and_then, take_next, next_kind, is_text, judged, may_lack, fields_of}
use Rattle.rules.specs.Records.{Field, the, walk_record}
use Rattle.rules.proofs.Tests.{Known, holds, fails, known}
use Rattle.base_digits.specs.NumbersRead.{value_of}
use Rattle.base_digits.proofs.ReadingLaws.{value-is}
use Rattle.base_amounts.specs.AmountsRead.{amount_read}
use Rattle.base_amounts.proofs.AmountLaws.{amount-empty}
use Rattle.read_kinds.proofs.KindLaws.{same_kind_lem}
use Rattle.read_kept.proofs.EachKind.{Amounts, reads-amount, reads_total}
use Rattle.find_field.proofs.SearchAgrees.{found-is}
use Rattle.find_next.specs.FieldTrace.{Trace, stops, ends, yields, trace_after, trace_taken, trace_past_slash, trace_taken_to, trace_cells, trace_end, trace_lines}
use Rattle.find_field.specs.FieldSearch.{Found, sought_in, seek_lines, in_detail}

-- ---- what holds of every good field of a kind holds of what is found

module _ (k : Kind) (P : Bytes → Type 0) (none : P []) (each : (bs : Bytes) (new : List Kind) → judged k bs ≡ good new → P bs) where
  -- of each field of the kind that is yielded
  abbrev Holds : Trace → Type 0
  Holds (stops why) = Unit {0}
  Holds ends = Unit {0}
  Holds (yields f t) = (same_kind k f.kind ≡ true → P f.bytes) × Holds t

  either : (t : Bool) (x y : Trace) → Holds x → Holds y → Holds (cond t x y)
  either true x y h g = h
  either false x y h g = g

  kind-holds : (kd : Kind) (bs : Bytes) (new : List Kind) → judged kd bs ≡ good new → same_kind k kd ≡ true → P bs
  kind-holds kd bs new e t = each bs new (ap (λ (x : Kind). judged x bs) (sym (same_kind_lem k kd t)) ∙ e)

  after_holds : (j : Judged) (kd : Kind) (ks : List Kind) (p : ℕ) (bs : Bytes) (go : List Kind → Trace) → judged kd bs ≡ j → ((next : List Kind) → Holds (go next))
      → Holds (trace_after (and_then j ks) (record { kind = kd; place = p; bytes = bs }) go)
  unfolding trace_after and_then
  after_holds (bad n) kd ks p bs go e h = tt
  after_holds (good new) kd ks p bs go e h = (kind-holds kd bs new e, h (new ++ ks))

  taken-holds : (ks : List Kind) (p : ℕ) (bs : Bytes) (go : List Kind → Trace) → ((next : List Kind) → Holds (go next)) → Holds (trace_taken ks p bs go)
  unfolding trace_taken take_next trace_after
  taken-holds [] p bs go h = tt
  taken-holds (kd ∷ ks) p bs go h = after_holds (judged kd bs) kd ks p bs go refl h

  past-holds : (j : Judged) (kd : Kind) (ks : List Kind) (p : ℕ) (bs : Bytes) (q : ℕ) (after : Bytes) (go : List Kind → Trace) → judged kd bs ≡ j → ((next : List Kind) → Holds (go next))
      → Holds (trace_past_slash (and_then j ks) (record { kind = kd; place = p; bytes = bs }) q after go)
  unfolding trace_past_slash and_then
  past-holds (bad n) kd ks p bs q after go e h = tt
  past-holds (good new) kd ks p bs q after go e h = either (eqb (leading_blanks after) (length after)) _ _ (kind-holds kd bs new e, h (new ++ ks)) tt

  slash-holds : (ks : List Kind) (p : ℕ) (bs : Bytes) (q : ℕ) (after : Bytes) (go : List Kind → Trace) → ((next : List Kind) → Holds (go next))
      → Holds (trace_past_slash (take_next ks bs) (record { kind = next_kind ks; place = p; bytes = bs }) q after go)
  unfolding take_next trace_past_slash
  slash-holds [] p bs q after go h = tt
  slash-holds (kd ∷ ks) p bs q after go h = past-holds (judged kd bs) kd ks p bs q after go refl h

  to-holds : (m : Mark) (c : Cell) (ks : List Kind) (s : ℕ) (go : List Kind → ℕ → Trace) → ((next : List Kind) (q : ℕ) → Holds (go next q)) → Holds (trace_taken_to m c ks s go)
  unfolding trace_taken_to
  to-holds at_line_end c ks s go h = tt
  to-holds at_comma c ks s go h = taken-holds ks c.place c.bytes (λ next. go next s) (λ next. h next s)
  to-holds (at_slash after) c ks s go h = slash-holds ks c.place c.bytes (mark_place c) after (λ next. go next (mark_place c)) (λ next. h next (mark_place c))

  cells-hold : (cs : List Cell) (ks : List Kind) (s : ℕ) (go : List Kind → ℕ → Trace) → ((next : List Kind) (q : ℕ) → Holds (go next q)) → Holds (trace_cells ks s cs go)
  unfolding trace_cells
  cells-hold [] ks s go h = h ks s
  cells-hold (c ∷ cs) ks s go h =
      either (is_text (next_kind ks)) _ _ (taken-holds ks c.place (trimmed c.rest) (λ next. go next s) (λ next. h next s))
      (to-holds c.mark c ks s (λ next q. trace_cells next q cs go) (λ next q. cells-hold cs next q go h))

  lines-hold : (ls : List Line) (p : ℕ) (ks : List Kind) (s : ℕ) → Holds (trace_lines p ks s ls)
  unfolding trace_lines trace_end
  lines-hold [] p ks s = either (may_lack ks) _ _ tt tt
  lines-hold (l ∷ ls) p ks s = cells-hold (cells_of p l) ks s (λ next q. trace_lines (p + size_of l) next q ls) (λ next q. lines-hold ls (p + size_of l) next q)

  found-kept : (f : Field) (t : Trace) → (same_kind k f.kind ≡ true → P f.bytes) → P (sought_in k t).bytes → Known (same_kind k f.kind) → P (sought_in k (yields f t)).bytes
  unfolding sought_in
  found-kept f t here later (holds e) = rw e (here e)
  found-kept f t here later (fails e) = rw e later

  sought-holds : (t : Trace) → Holds t → P (sought_in k t).bytes
  unfolding sought_in
  sought-holds (stops why) h = none
  sought-holds ends h = none
  sought-holds (yields f t) h = found-kept f t h.0 (sought-holds t h.1) (known (same_kind k f.kind))

  found-holds : (ks : List Kind) (r : Record) → P (seek_lines k ks r).bytes
  unfolding seek_lines
  found-holds ks r = sought-holds (trace_lines 0 ks 0 r) (lines-hold r 0 ks 0)

-- ---- a type is three digits, a number of records one to nine

abbrev ValueRead : Bytes → Type 0
ValueRead bs = value_of bs ≡ number bs

each-type : (bs : Bytes) (new : List Kind) → judged detail_type bs ≡ good new → ValueRead bs
unfolding judged type_class
each-type bs new e = go (known (digits 3 3 bs))
  where
    go : Known (digits 3 3 bs) → ValueRead bs
    go (holds t) = value-is 3 3 bs t (omega arith)
    go (fails t) = let z : bad 8 ≡ good new = rw t at e in cc

type-read : (ks : List Kind) (r : Record) → ValueRead (seek_lines detail_type ks r).bytes
unfolding value_of number_from digits all
type-read ks r = found-holds detail_type ValueRead refl each-type ks r

each-records : (bs : Bytes) (new : List Kind) → judged records bs ≡ good new → ValueRead bs
unfolding judged
each-records bs new e = go (known (digits 1 9 bs))
  where
    go : Known (digits 1 9 bs) → ValueRead bs
    go (holds t) = value-is 1 9 bs t (omega arith)
    go (fails t) = let z : bad 8 ≡ good new = rw t at e in cc

records-read : (ks : List Kind) (r : Record) → ValueRead (seek_lines records ks r).bytes
unfolding value_of number_from digits all
records-read ks r = found-holds records ValueRead refl each-records ks r

-- ---- an amount and a total are digits after at most a sign, or an amount is empty

abbrev AmountRead : Bytes → Type 0
AmountRead bs = amount_read bs ≡ amount_in bs

-- of a kind that is read so
kind-read : (k : Kind) → Amounts k → (ks : List Kind) (r : Record) → AmountRead (seek_lines k ks r).bytes
unfolding is_empty
kind-read k reads ks r = found-holds k AmountRead (amount-empty [] refl) reads ks r

-- ---- the field's bytes as the code lends them

pub spot_is : (k : Kind) (rec : Bytes) (x : Found) → x ≡ seek_lines k (fields_of detail) (lines_of rec) → x ≡ in_detail k rec
unfolding in_detail
spot_is k rec x h = h

pub lent_is : (k : Kind) (rec : Bytes) (ks : List Kind) (s n : ℕ) → record { place = s; bytes = take n (drop s rec) } ≡ seek_lines k ks (lines_of rec)
    → take (s + n - s) (drop s rec) ≡ (seek_lines k ks (lines_of rec)).bytes
lent_is k rec ks s n h = let size : s + n - s ≡ n = omega arith in ap (λ (m : ℕ). take m (drop s rec)) size ∙ ap (λ (x : Found). x.bytes) h

pub spot-bytes : (k : Kind) (rec : Bytes) (s n : ℕ) → record { place = s; bytes = take n (drop s rec) } ≡ seek_lines k (fields_of detail) (lines_of rec)
    → take (s + n - s) (drop s rec) ≡ (in_detail k rec).bytes
unfolding in_detail
spot-bytes k rec s n h = lent_is k rec (fields_of detail) s n h

pub type-in : (rec bs : Bytes) → bs ≡ (seek_lines detail_type (fields_of detail) (lines_of rec)).bytes → value_of bs ≡ number (in_detail detail_type rec).bytes
unfolding in_detail
type-in rec bs e = ap value_of e ∙ type-read (fields_of detail) (lines_of rec)

pub amount-in : (rec bs : Bytes) → bs ≡ (seek_lines amount (fields_of detail) (lines_of rec)).bytes → amount_read bs ≡ amount_in (in_detail amount rec).bytes
unfolding in_detail
amount-in rec bs e = ap amount_read e ∙ kind-read amount reads-amount (fields_of detail) (lines_of rec)

-- ---- in a record that is read as one of code c

module _ (c : Code) (rec : Bytes) (fs : List Field) (walked : walk_record c (lines_of rec) ≡ fine fs) where
  -- the field found is the record's own
  pub own-field : (k : Kind) → (seek_lines k (fields_of c) (lines_of rec)).bytes ≡ (the k fs).bytes
  own-field k = ap (λ (x : Found). x.bytes) (sym (found-is k c (lines_of rec) fs walked))

-- ---- a trailer's total and number of records, of whatever bytes

pub total-found : (ks : List Kind) (r : Record) → amount_read (seek_lines total ks r).bytes ≡ amount_in (seek_lines total ks r).bytes
total-found ks r = kind-read total reads_total ks r

pub records-found : (ks : List Kind) (r : Record) → value_of (seek_lines records ks r).bytes ≡ number (seek_lines records ks r).bytes
records-found ks r = records-read ks r
