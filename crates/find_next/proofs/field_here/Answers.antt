-- `find_next::field_here`: its answers at each field, and that its places stand in the record. Assumes nothing.
use Prim.Native.Nat.{ℕ, ◌+◌, ◌-◌, ◌≤◌, ◌<◌}
use native.Mathlib.Omega.{arith}
use mathlib.Core.Path.{◌≡◌, sym, ap, ◌∙◌}
use mathlib.Core.Bool.{Bool, false}
use lib.ListN.{length, take, drop, length-drop}
use lib.Seq.{slice, take_all, length-take-le}
use Rattle.std.specs.Prelude.{Some}
use Rattle.rules.specs.Bytes.{Bytes}
use Rattle.rules.specs.Cells.{leading_blanks}
use Rattle.rules.specs.Grammar.{next_kind, is_text}
use Rattle.read_wanted.specs.Wants.{wanted_of}
use Rattle.read_wanted.specs.TakenMeaning.{judged_of}
use Rattle.read_field_ends.specs.FieldLengths.{extent_of}
use Rattle.find_next.specs.declared.Cursor.{Cursor}
use Rattle.find_next.proofs.CursorLaws.{size-left, open-takes, in_left, in-short, wrong-takes, comma-takes, text-takes, stray-takes, slash-takes}
use Rattle.find_next.proofs.field_here.Goals as goal

-- a field that is no text leaves a byte of its line, and the line stands in the record
room : (rec : Bytes) (walk : Cursor) (left : Bytes) → left ≡ slice walk.at.0 walk.end.0 rec → (n : ℕ) (t : Bool) → t ≡ is_text (next_kind (wanted_of walk.want)) → Some n ≡ extent_of t left → t ≡ false
    → (n < length left) × (length left ≤ length rec - walk.at.0)
room rec walk left is n t text size plain =
    (in-short rec 0 walk left is n (rw text at size) (sym text ∙ plain), (size-left rec 0 walk left is).1)

-- where the blanks from m on end
blanks-end : (xs : Bytes) (m k : ℕ) → k ≡ leading_blanks (take (length xs - m) (drop m xs)) → m + k ≡ m + leading_blanks (drop m xs)
blanks-end xs m k e = ap (λ (j : ℕ). m + j) (e ∙ ap leading_blanks (take_all (length xs - m) (drop m xs) (omega (arith, length-drop m xs))))

pub returns-in_default : goal.returns-in_default
returns-in_default c =
    let a = c.args in
    λ least. open-takes a.rec.now least a.walk c.part-left.result.now c.part-left.ensures _ c.at.ensures (rw c.is_text-text.ensures at c.in_default.ensures)

pub slice_bounds-take_detail_first-end : goal.slice_bounds-take_detail_first-end
slice_bounds-take_detail_first-end c =
    let a = c.args in
    sym (length-take-le c.in-Some.n c.part-left.result.now (in_left a.rec.now 0 a.walk c.part-left.result.now c.part-left.ensures c.in-Some.n (rw c.is_text-text.ensures at c.in-Some.ensures)))

-- it is wrong
pub returns-in-Err : goal.returns-in-Err
unfolding judged_of
returns-in-Err c =
    let a = c.args in
    λ least. wrong-takes a.rec.now least a.walk c.part-left.result.now c.part-left.ensures c.in-Some.n (rw c.is_text-text.ensures at c.in-Some.ensures) _ c.in-Err.reason c.at-in-Err.ensures (sym c.in-Err.ensures)

-- a text ends the line
pub returns-then-text : goal.returns-then-text
unfolding judged_of
returns-then-text c =
    let a = c.args in
    λ least. text-takes a.rec.now least a.walk c.part-left.result.now c.part-left.ensures c.in-Some.n (rw c.is_text-text.ensures at c.in-Some.ensures) c.in-Ok.next (sym c.in-Ok.ensures) _ c.before_line.ensures
    (sym c.is_text-text.ensures ∙ c.if-text.true)

pub overflow_add-f : goal.overflow_add-f
overflow_add-f c =
    omega (arith, room c.args.rec.now c.args.walk c.part-left.result.now c.part-left.ensures c.in-Some.n c.is_text-text.result c.is_text-text.ensures c.in-Some.ensures c.if-text.false)

pub bounds-left-n : goal.bounds-left-n
bounds-left-n c =
    omega (arith, room c.args.rec.now c.args.walk c.part-left.result.now c.part-left.ensures c.in-Some.n c.is_text-text.result c.is_text-text.ensures c.in-Some.ensures c.if-text.false)

pub overflow_add-after : goal.overflow_add-after
overflow_add-after c =
    omega (arith, room c.args.rec.now c.args.walk c.part-left.result.now c.part-left.ensures c.in-Some.n c.is_text-text.result c.is_text-text.ensures c.in-Some.ensures c.if-text.false)

-- a comma
pub returns-then-left-n-ne47 : goal.returns-then-left-n-ne47
unfolding judged_of
returns-then-left-n-ne47 c =
    let a = c.args in
    λ least. comma-takes a.rec.now least a.walk c.part-left.result.now c.part-left.ensures c.in-Some.n (rw c.is_text-text.ensures at c.in-Some.ensures) c.in-Ok.next (sym c.in-Ok.ensures)
    (sym c.is_text-text.ensures ∙ c.if-text.false) c.if-left-n-ne47.true

-- a slash and a stray byte
pub returns-then-t-left : goal.returns-then-t-left
unfolding judged_of
returns-then-t-left c =
    let a = c.args in
    λ least. stray-takes a.rec.now least a.walk c.part-left.result.now c.part-left.ensures c.in-Some.n (rw c.is_text-text.ensures at c.in-Some.ensures) c.in-Ok.next (sym c.in-Ok.ensures)
    (sym c.is_text-text.ensures ∙ c.if-text.false) c.if-left-n-ne47.false _ (blanks-end c.part-left.result.now (c.in-Some.n + 1) _ c.blanks_len.ensures.0) _ c.at-then-t-left.ensures c.if-t-left.true

-- a slash
pub returns : goal.returns
unfolding judged_of
returns c =
    let a = c.args in
    λ least. slash-takes a.rec.now least a.walk c.part-left.result.now c.part-left.ensures c.in-Some.n (rw c.is_text-text.ensures at c.in-Some.ensures) c.in-Ok.next (sym c.in-Ok.ensures)
    (sym c.is_text-text.ensures ∙ c.if-text.false) c.if-left-n-ne47.false _ (blanks-end c.part-left.result.now (c.in-Some.n + 1) _ c.blanks_len.ensures.0) _ c.before_line-after.ensures c.if-t-left.false (omega (arith, c.blanks_len.ensures.1, room a.rec.now a.walk c.part-left.result.now c.part-left.ensures c.in-Some.n c.is_text-text.result c.is_text-text.ensures c.in-Some.ensures c.if-text.false))
