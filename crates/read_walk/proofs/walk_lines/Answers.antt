-- `walk_lines` meets its contract. Assumes nothing.
use Rattle.std.proofs.Common.{ℕ, ◌+◌, ◌-◌, ◌≤◌, ◌<◌, ◌≡◌, refl, ap, sym, ◌∙◌, Bool, false, length, drop, take, length-drop, Option, Some, Err, arith}
use Rattle.std.proofs.Math.Seq.{slice, length-slice}
use Rattle.rules.specs.Bytes.{Bytes}
use Rattle.rules.specs.Outcome.{refuse, fine}
use Rattle.rules.specs.Lines.{lines_of}
use Rattle.rules.specs.Cells.{cells_from, leading_blanks}
use Rattle.rules.specs.Grammar.{take_next, next_kind, is_text}
use Rattle.base_refusals.specs.declared.Reason.{Reason}
use Rattle.base_refusals.specs.declared.Reason.TheVariants as reasons
use Rattle.base_refusals.specs.declared.Refusal.{Refusal}
use Rattle.base_refusals.specs.RefusalMeaning.{reason_number}
use Rattle.read_lines.specs.LineLengths.{body_len, is_end, line_len}
use Rattle.read_lines.proofs.LineLengthLaws.{run-le}
use Rattle.read_lines.proofs.LineLaws.{next-is, next-within}
use Rattle.read_wanted.specs.Wants.{wanted_of, purpose}
use Rattle.read_wanted.specs.TakenMeaning.{judged_of}
use Rattle.read_wanted.specs.declared.want.Want.{Want}
use Rattle.read_field_ends.specs.FieldLengths.{extent_of}
use Rattle.read_kept.specs.declared.Kept.{Kept}
use Rattle.read_kept.specs.KeepFields.{keep_read}
use Rattle.read_kept.proofs.AddAmounts.{kept-for-nothing}
use Rattle.read_walk.specs.WalkAnswers.{Walks}
use Rattle.read_walk.specs.WalkKept.{WalkK, point, taken_k, walk_cells_k, walk_lines_k}
use Rattle.read_walk.proofs.LineParts.{part_slice}
use Rattle.read_walk.proofs.WalkBounds.{Fits, fits-same, taken-fits, end-bounds}
use Rattle.read_walk.proofs.WalkLaws.{took-bad, took-good, open-here, field-within, wrong-here, text-here, field-short, comma-here, blanks-here, byte-here, short-here, line-stop, line-go, lines_end, from-stop, from_end}
use Rattle.read_walk.proofs.walk_lines.Goals as goal
use Rattle.read_walk.proofs.walk_lines.Goals.{After-end_len, In-Some, In-Ok, Else-text, After-blanks_len, then-is_kept, else-is_kept}

-- ---- at a line

-- the walk where it starts, and where the record does; where the next line starts
abbrev from-of : After-end_len → WalkK
from-of c = point (wanted_of c.loop-at.want) c.loop-at.kept c.loop-at.slash.0

abbrev first_of : After-end_len → WalkK
first_of c = point (wanted_of c.args.first) c.none-kept.result 0

abbrev next_of : After-end_len → ℕ
next_of c = c.body_end_in-e.result.0 + c.end_len.result

-- its bytes after the code and the comma
abbrev whole : After-end_len → Bytes
whole c = slice (c.loop-at.at + 3) c.body_end_in-e.result.0 c.args.rec.now

end_is : (c : After-end_len) → c.body_end_in-e.result.0 ≡ c.loop-at.at + body_len (drop c.loop-at.at c.args.rec.now)
end_is c = c.body_end_in-e.ensures ∙ ap (λ (bs : Bytes). c.loop-at.at + body_len (drop c.loop-at.at bs)) (sym c.requires)

ends : (c : After-end_len) → c.body_end_in-e.result.0 ≤ length c.args.rec.now
ends c = omega (arith, c.loop-at-test.true, end_is c, run-le is_end (drop c.loop-at.at c.args.rec.now), length-drop c.loop-at.at c.args.rec.now)

next_end : (c : After-end_len) → next_of c ≡ c.body_end_in-e.result.0 + length (Rattle.rules.specs.Lines.end_bytes (Rattle.read_lines.specs.LineLengths.end_of (drop c.body_end_in-e.result.0 c.args.rec.now)))
next_end c = ap (λ (n : ℕ). c.body_end_in-e.result.0 + n) c.end_len.ensures

next-at : (c : After-end_len) → next_of c ≡ c.loop-at.at + line_len (drop c.loop-at.at c.args.rec.now)
next-at c = next-is c.args.rec.now c.loop-at.at c.body_end_in-e.result.0 (next_of c) (end_is c) (next_end c)

within : (c : After-end_len) → next_of c ≤ length c.args.rec.now
within c =
    omega (arith, c.loop-at-test.true, next-within c.args.rec.now c.loop-at.at c.body_end_in-e.result.0 (next_of c) (end_is c) (next_end c))

-- the record is refused where this line is
stop : (c : After-end_len) (reason : Reason) (q : ℕ) (why : Refusal) → why ≡ record { reason = reason; place = record { 0 = q } }
    → walk_cells_k (from-of c) (cells_from (c.loop-at.at + 3) (whole c)) ≡ refuse (reason_number reason) q → q ≤ length c.args.rec.now + 3
    → Walks c.args.rec.now c.args.first c.args.before.0 (Err why)
stop c reason q why e r h =
    rw e (record {
      answer = from-stop _ _ (lines_of c.args.rec.now) (first_of c) (ap (λ (k : Kept). point (wanted_of c.args.first) k 0) c.none-kept.ensures) (reason_number reason) q
          (c.loop-at.invariant.2 ∙ line-stop c.args.rec.now c.loop-at.at c.body_end_in-e.result.0 (next_of c) c.loop-at-test.true (end_is c) (next-at c) (from-of c) (reason_number reason) q r);
      bounds = h;
    })

-- the walk goes on at the next line where this one is good
go_on : (c : After-end_len) (v : WalkK) → walk_cells_k (from-of c) (cells_from (c.loop-at.at + 3) (whole c)) ≡ fine v
    → walk_lines_k 0 (first_of c) (lines_of c.args.rec.now) ≡ walk_lines_k (next_of c) v (lines_of (drop (next_of c) c.args.rec.now))
go_on c v r =
    c.loop-at.invariant.2 ∙ line-go c.args.rec.now c.loop-at.at c.body_end_in-e.result.0 (next_of c) c.loop-at-test.true (end_is c) (next-at c) (from-of c) v r

-- ---- at a field

-- how far it goes, of what is left of the line, and its bytes, as the code lends both
asked : (s : Bytes) (want : Want) (a e : ℕ) (t : Bool) (r : Option ℕ) → a ≤ e → t ≡ is_text (next_kind (wanted_of want)) → r ≡ extent_of t (take (e - a) (drop a s))
    → r ≡ extent_of (is_text (next_kind (wanted_of want))) (slice a e s)
asked s want a e t r h p q = q ∙ ap (λ (b : Bool). extent_of b (take (e - a) (drop a s))) p ∙ ap (λ (bs : Bytes). extent_of (is_text (next_kind (wanted_of want))) bs) (part_slice a e s h)

lent : (s : Bytes) (a n : ℕ) → take (a + n - a) (drop a s) ≡ slice a (a + n) s
lent s a n = part_slice a (a + n) s (omega arith)

abbrev here : In-Some → WalkK
here c = point (wanted_of c.loop-n.want) c.loop-n.kept c.loop-n.slash.0

extent : (c : In-Some) → Some c.in-Some.n ≡ extent_of (is_text (next_kind (wanted_of c.loop-n.want))) (slice c.loop-n.a c.body_end_in-e.result.0 c.args.rec.now)
extent c =
    sym c.in-Some.is
    ∙ asked c.args.rec.now c.loop-n.want c.loop-n.a c.body_end_in-e.result.0 c.is_text-text.result c.field_extent.result c.loop-n.invariant.0 c.is_text-text.ensures c.field_extent.ensures

inside : (c : In-Some) → c.loop-n.a + c.in-Some.n ≤ c.body_end_in-e.result.0
inside c = field-within c.args.rec.now (here c) c.loop-n.a c.body_end_in-e.result.0 c.loop-n.invariant.0 c.loop-n.invariant.1 c.in-Some.n (extent c)

-- ---- the field is good: it is kept, and this is wanted next

abbrev then : In-Ok → WalkK
then c = point (wanted_of c.in-Ok.next) c.if-is_kept.kept c.loop-n.slash.0

kept-is : (c : In-Ok) → c.if-is_kept.kept ≡ keep_read (purpose (next_kind (wanted_of c.loop-n.want))) c.loop-n.kept c.loop-n.a (slice c.loop-n.a (c.loop-n.a + c.in-Some.n) c.args.rec.now)
kept-is c =
    let b = lent c.args.rec.now c.loop-n.a c.in-Some.n in
    elim c.if-is_kept.branch [
      | then-is_kept w ↦ w.kept-is ∙ w.keep-kept.ensures ∙ ap (λ (bs : Bytes). keep_read (purpose (next_kind (wanted_of c.loop-n.want))) c.loop-n.kept c.loop-n.a bs) b
      | else-is_kept w ↦ w.kept-is ∙ kept-for-nothing (purpose (next_kind (wanted_of c.loop-n.want))) c.loop-n.kept c.loop-n.a _ (sym c.is_kept.ensures ∙ w.if-is_kept.false)
    ]

took : (c : In-Ok) → taken_k c.loop-n.a (slice c.loop-n.a (c.loop-n.a + c.in-Some.n) c.args.rec.now) (point (wanted_of c.loop-n.want) c.loop-n.kept c.loop-n.slash.0) ≡ fine (then c)
unfolding judged_of
took c =
    took-good c.loop-n.a _ (point (wanted_of c.loop-n.want) c.loop-n.kept c.loop-n.slash.0) _ _
    (sym (c.take_detail_first.ensures ∙ ap (λ (bs : Bytes). take_next (wanted_of c.loop-n.want) bs) (lent c.args.rec.now c.loop-n.a c.in-Some.n)) ∙ ap judged_of c.in-Ok.is)
    (kept-is c)

fits : (c : In-Ok) → Fits (length c.args.rec.now) c.loop-at.kept.before.0 (then c)
fits c =
    let i = c.loop-n.invariant in
    taken-fits (length c.args.rec.now) _ c.loop-n.a _ (point (wanted_of c.loop-n.want) c.loop-n.kept c.loop-n.slash.0) (then c) (took c) (omega (arith, i.0, i.1)) i.2

-- ---- the field is no text

no_text : (c : Else-text) → is_text (next_kind (wanted_of c.loop-n.want)) ≡ false
no_text c = sym c.is_text-text.ensures ∙ c.if-text.false

short : (c : Else-text) (f : In-Some) → is_text (next_kind (here f).wanted) ≡ false → f.loop-n.a + f.in-Some.n < f.body_end_in-e.result.0
short c f t = field-short f.args.rec.now (here f) f.loop-n.a f.body_end_in-e.result.0 f.loop-n.invariant.0 f.loop-n.invariant.1 f.in-Some.n (extent f) t

-- after a slash, blanks
blanks-from : (c : After-blanks_len) → c.loop-n.a + c.in-Some.n < c.body_end_in-e.result.0
    → c.blanks_len.result ≡ leading_blanks (slice (c.loop-n.a + c.in-Some.n + 1) c.body_end_in-e.result.0 c.args.rec.now)
blanks-from c h =
    c.blanks_len.ensures.0 ∙ ap leading_blanks (part_slice (c.loop-n.a + c.in-Some.n + 1) c.body_end_in-e.result.0 c.args.rec.now (omega arith))

blanks-in : (c : After-blanks_len) → c.loop-n.a + c.in-Some.n < c.body_end_in-e.result.0 → c.loop-n.a + c.in-Some.n + 1 + c.blanks_len.result ≤ c.body_end_in-e.result.0
blanks-in c h =
    let a = c.loop-n.a + c.in-Some.n + 1 in
    omega (
      arith,
      c.blanks_len.ensures.1,
      ap length (part_slice a c.body_end_in-e.result.0 c.args.rec.now (omega arith)),
      length-slice a c.body_end_in-e.result.0 c.args.rec.now c.loop-n.invariant.1,
    )

-- ---- the answers

pub loop-n-init : goal.loop-n-init
loop-n-init c =
    let l = (goal.at.loop-n-init c).After-end_len in
    (omega arith, ends l, fits-same _ _ _ (from-of l) (sym c.loop-at.invariant.1.kept.before) c.loop-at.invariant.1, refl)

pub overflow_add-f : goal.overflow_add-f
overflow_add-f c =
    let g = goal.at.overflow_add-f c in
    omega (arith, inside g.In-Some, ends g.After-end_len)

pub slice_bounds-keep-end : goal.slice_bounds-keep-end
slice_bounds-keep-end c =
    let g = goal.at.slice_bounds-keep-end c in
    omega (arith, inside g.In-Some, ends g.After-end_len)

pub slice_bounds-take_detail_first-end : goal.slice_bounds-take_detail_first-end
slice_bounds-take_detail_first-end c =
    let g = goal.at.slice_bounds-take_detail_first-end c in
    omega (arith, inside g.In-Some, ends g.After-end_len)

pub bounds-rec-f : goal.bounds-rec-f
bounds-rec-f c =
    let g = goal.at.bounds-rec-f c in
    omega (arith, short g.Else-text g.In-Some (no_text g.Else-text), ends g.After-end_len)

pub slice_bounds-blanks_len-count : goal.slice_bounds-blanks_len-count
slice_bounds-blanks_len-count c =
    let g = goal.at.slice_bounds-blanks_len-count c in
    omega (arith, short g.Else-text g.In-Some (no_text g.Else-text))

pub slice_bounds-blanks_len-start : goal.slice_bounds-blanks_len-start
slice_bounds-blanks_len-start c =
    let g = goal.at.slice_bounds-blanks_len-start c in
    omega (arith, short g.Else-text g.In-Some (no_text g.Else-text))

pub loop-at-preserved-then-text : goal.loop-at-preserved-then-text
loop-at-preserved-then-text c =
    let g = goal.at.loop-at-preserved-then-text c in
    let l = g.After-end_len in
    let k = g.In-Ok in
    let i = c.loop-n.invariant in (
      within l,
      fits-same _ _ _ (then k) c.loop-at.invariant.1.kept.before (fits k),
      go_on l (then k) (i.3
          ∙ text-here c.args.rec.now (here g.In-Some) c.loop-n.a c.body_end_in-e.result.0 i.0 i.1 c.in-Some.n (extent g.In-Some) (then k) (sym c.is_text-text.ensures ∙ c.if-text.true) (took k)),
    )

pub loop-at-preserved : goal.loop-at-preserved
loop-at-preserved c =
    let g = goal.at.loop-at-preserved c in
    let l = g.After-end_len in
    let k = g.In-Ok in
    let i = c.loop-n.invariant in
    let t = no_text g.Else-text in
    let h = short g.Else-text g.In-Some t in
    let b = ap (λ (n : ℕ). c.loop-n.a + c.in-Some.n + 1 + n) (blanks-from g.After-blanks_len h) in (
      within l,
      record { kept = (fits-same _ _ _ (then k) c.loop-at.invariant.1.kept.before (fits k)).kept; slash = omega (arith, h, ends l) },
      go_on l _ (i.3
          ∙ blanks-here c.args.rec.now (here g.In-Some) c.loop-n.a c.body_end_in-e.result.0 i.0 i.1 c.in-Some.n (extent g.In-Some)
          t (then k) (took k) c.if-rec-f-eq47.true _ b c.if-t-e.false (blanks-in g.After-blanks_len h)),
    )

pub loop-n-smaller : goal.loop-n-smaller
loop-n-smaller c =
    let g = goal.at.loop-n-smaller c in
    omega (arith, short g.Else-text g.In-Some (no_text g.Else-text))

pub loop-n-preserved : goal.loop-n-preserved
loop-n-preserved c =
    let g = goal.at.loop-n-preserved c in
    let k = g.In-Ok in
    let i = c.loop-n.invariant in
    let t = no_text g.Else-text in (
      omega (arith, short g.Else-text g.In-Some t),
      i.1,
      fits k,
      i.3 ∙ comma-here c.args.rec.now (here g.In-Some) c.loop-n.a c.body_end_in-e.result.0 i.0 i.1 c.in-Some.n (extent g.In-Some) t (then k) (took k) c.if-rec-f-eq47.false,
    )

pub returns : goal.returns
returns c =
    let p = point (wanted_of c.loop-at.want) c.loop-at.kept c.loop-at.slash.0 in
    let first = point (wanted_of c.args.first) c.none-kept.result 0 in
    record {
      answer = from_end _ _ (lines_of c.args.rec.now) first (ap (λ (k : Kept). point (wanted_of c.args.first) k 0) c.none-kept.ensures) p _
          (c.loop-at.invariant.2 ∙ lines_end c.args.rec.now p c.loop-at.at c.loop-at-test.false) c.finish.ensures;
      bounds = end-bounds _ _ c.finish.result p c.finish.ensures (fits-same _ _ _ p (ap (λ (k : Kept). k.before.0) c.none-kept.ensures) c.loop-at.invariant.1);
    }

pub returns-then-e-a : goal.returns-then-e-a
returns-then-e-a c =
    let l = (goal.at.returns-then-e-a c).After-end_len in
    stop l reasons.LineBadlyEnded (c.loop-at.at + 3) c.at.result c.at.ensures
    (short-here c.args.rec.now (from-of l) (c.loop-at.at + 3) c.body_end_in-e.result.0 c.if-e-a.true) (omega arith)

pub returns-in_default : goal.returns-in_default
returns-in_default c =
    let l = (goal.at.returns-in_default c).After-end_len in
    let i = c.loop-n.invariant in
    let e = c.body_end_in-e.result.0 in
    stop l reasons.LineBadlyEnded e c.at-in_default.result c.at-in_default.ensures
    (i.3 ∙ open-here c.args.rec.now (point (wanted_of c.loop-n.want) c.loop-n.kept c.loop-n.slash.0) c.loop-n.a e i.0 i.1
    (sym c.in_default.is ∙ asked c.args.rec.now c.loop-n.want c.loop-n.a e c.is_text-text.result c.field_extent.result i.0 c.is_text-text.ensures c.field_extent.ensures))
    (omega (arith, ends l))

pub returns-in-Err : goal.returns-in-Err
unfolding judged_of
returns-in-Err c =
    let g = goal.at.returns-in-Err c in
    let i = c.loop-n.invariant in
    stop g.After-end_len c.in-Err.reason c.loop-n.a c.at-in-Err.result c.at-in-Err.ensures
    (i.3 ∙ wrong-here c.args.rec.now (here g.In-Some) c.loop-n.a c.body_end_in-e.result.0 i.0 i.1 c.in-Some.n (extent g.In-Some) _
    (took-bad c.loop-n.a _ (here g.In-Some) _
    (sym (c.take_detail_first.ensures ∙ ap (λ (bs : Bytes). take_next (wanted_of c.loop-n.want) bs) (lent c.args.rec.now c.loop-n.a c.in-Some.n)) ∙ ap judged_of c.in-Err.is)))
    (omega (arith, i.0, i.1))

pub returns-then-t-e : goal.returns-then-t-e
returns-then-t-e c =
    let g = goal.at.returns-then-t-e c in
    let l = g.After-end_len in
    let k = g.In-Ok in
    let i = c.loop-n.invariant in
    let t = no_text g.Else-text in
    let h = short g.Else-text g.In-Some t in
    let b = ap (λ (n : ℕ). c.loop-n.a + c.in-Some.n + 1 + n) (blanks-from g.After-blanks_len h) in
    stop l reasons.LineBadlyEnded _ c.at-then-t-e.result c.at-then-t-e.ensures
    (i.3 ∙ byte-here c.args.rec.now (here g.In-Some) c.loop-n.a c.body_end_in-e.result.0 i.0 i.1 c.in-Some.n (extent g.In-Some)
    t (then k) (took k) c.if-rec-f-eq47.true _ b c.if-t-e.true)
    (omega (arith, ends l, c.if-t-e.true))
