-- What is ahead of the walk over a 03, and which item is met there. Assumes nothing.
use Prim.Native.Nat.{ℕ, zero, suc, ◌+◌, ◌≤◌, zero-le}
use native.Mathlib.Omega.{arith}
use mathlib.Core.Path.{◌≡◌, refl, sym, ap, ◌∙◌}
use mathlib.Core.Bool.{Bool, true, false, not, ◌&&◌, ◌||◌}
use mathlib.Core.List.{List, [], ◌∷◌}
use mathlib.Core.Option.{Option}
use Rattle.std.specs.Result.{result_unwrap_or}
use Rattle.std.specs.Prelude as prelude
use lib.Dec.{eqb}
use lib.ListN.{length, drop, length-drop}
use lib.Seq.{length-take-le}
use borrow.Author.Tests.{eq-eqb, ne_eqb}
use Rattle.rules.specs.Bytes.{Bytes, is_empty}
use Rattle.rules.specs.Outcome.{refuse, fine}
use Rattle.rules.specs.Grammar.{kind_number, next_kind}
use Rattle.rules.specs.Records.{Field}
use Rattle.rules.specs.Amounts.{Amount}
use Rattle.rules.specs.Items.{begins_item, first_bytes, second_bytes, item_from}
use Rattle.rules.proofs.Binds.{refused-fine, from-bind, fine-same}
use Rattle.base_refusals.specs.declared.Refusal.{Refusal}
use Rattle.base_digits.specs.NumbersRead.{value_of}
use Rattle.base_amounts.specs.AmountsRead.{amount_read}
use Rattle.read_wanted.specs.Wants.{wanted_of}
use Rattle.find_next.specs.declared.Cursor.{Cursor}
use Rattle.find_next.specs.declared.FieldStep.{FieldStep}
use Rattle.find_next.specs.FieldTrace.{Trace, stops, ends, yields, field_at, collected}
use Rattle.find_next.specs.CursorMeaning.{Inside, Steps}
use Rattle.find_item.specs.ItemSearch.{yielded, count_read, item_read, items_read, item_sought, met_by, ahead, bytes_in, Follows, Takes, Seeks}

-- ---- what is yielded of a record that is read are its fields

pub yielded-is : (t : Trace) (fs : List Field) → collected t ≡ fine fs → yielded t ≡ fs
unfolding collected yielded
yielded-is (stops why) fs h = absurd (refused-fine why fs h)
yielded-is ends fs h = fine-same [] fs h
yielded-is (yields f t) fs h =
    from-bind (collected t) _ fs h (λ gs first rest. ap (λ (hs : List Field). f ∷ hs) (yielded-is t gs first) ∙ fine-same (f ∷ gs) fs rest)

-- ---- a step of the walk: a field is ahead, or nothing is

pub follows : (rec : Bytes) (c : Cursor) (r : prelude.Result (prelude.Option FieldStep) Refusal) → Steps rec 1 c r → Follows rec c (result_unwrap_or r prelude.None)
unfolding yielded
follows rec c (prelude.Err why) s = ap yielded s.answer
follows rec c (prelude.Ok prelude.None) s = ap yielded s.answer
follows rec c (prelude.Ok (prelude.Some t)) s = (ap yielded s.answer, s.onward)

-- ---- whether a field begins an item

size-empty : (bs : Bytes) (m : ℕ) → length bs ≡ m → is_empty bs ≡ eqb m 0
unfolding is_empty
size-empty [] m h = sym (eq-eqb m 0 (sym h))
size-empty (b ∷ bs) m h = sym (ne_eqb m 0 (λ z. omega arith))

begins-is : (rec : Bytes) (c : Cursor) (t : FieldStep) (kind : ℕ) (b : Bool) → t.start.0 + t.length ≤ length rec → kind ≡ kind_number (next_kind (wanted_of c.want))
    → b ≡ ((eqb 14 kind || eqb 15 kind) && not (eqb t.length 0)) → b ≡ begins_item (field_at (wanted_of c.want) t.start.0 (bytes_in rec t))
begins-is rec c t kind b w k e =
    let size : length (bytes_in rec t) ≡ t.length = length-take-le t.length (drop t.start.0 rec) (omega (arith, length-drop t.start.0 rec)) in
    e ∙ rw (k, ← size-empty (bytes_in rec t) t.length size)

-- ---- which item is met

pub none-met : (n : ℕ) → item_from (items_read []) n ≡ refuse 17 0
unfolding items_read item_from
none-met n = refl

-- the field begins the item sought
pub sought-met : (f : Field) (fs : List Field) (n : ℕ) (b : Bool) → b ≡ begins_item f → met_by b n ≡ prelude.None → item_from (items_read (f ∷ fs)) n ≡ fine (item_read f.bytes fs)
unfolding met_by items_read item_from
sought-met f fs zero true e h = rw (← e)
sought-met f fs (suc n) true e h = let z : prelude.Some n ≡ prelude.None = h in cc
sought-met f fs n false e h = let z : prelude.Some n ≡ prelude.None = h in cc

-- it doesn't, and the item sought comes after m others of those ahead
pub another-met : (f : Field) (fs : List Field) (n m : ℕ) (b : Bool) → b ≡ begins_item f → met_by b n ≡ prelude.Some m → item_from (items_read (f ∷ fs)) n ≡ item_from (items_read fs) m
unfolding met_by items_read item_from
another-met f fs zero m true e h = let z : prelude.None ≡ prelude.Some m = h in cc
another-met f fs (suc n) m true e h = let z : n ≡ m = cc in rw (← e, z)
another-met f fs n m false e h = let z : n ≡ m = cc in rw (← e, z)

-- ---- before a field: the item sought comes after so many others of those ahead

pub record Going (rec : Bytes) (n : ℕ) (c : Cursor) (left : ℕ) : Type 0 where
  pub inside : Inside rec c
  pub same : item_sought rec n ≡ item_from (items_read (ahead rec c)) left

module _ (rec : Bytes) (n : ℕ) (c : Cursor) (left : ℕ) (g : Going rec n c left) where
  -- nothing is ahead
  pub going-none : Follows rec c prelude.None → item_sought rec n ≡ refuse 17 0
  going-none e = g.same ∙ ap (λ (fs : List Field). item_from (items_read fs) left) e ∙ none-met left

  -- a field is, and whether it begins an item is known
  module _ (t : FieldStep) (f : Follows rec c (prelude.Some t)) (kind : ℕ) (b : Bool) (k : kind ≡ kind_number (next_kind (wanted_of c.want)))
      (begins : b ≡ ((eqb 14 kind || eqb 15 kind) && not (eqb t.length 0))) where
    abbrev met-field : Field
    met-field = field_at (wanted_of c.want) t.start.0 (bytes_in rec t)

    is : b ≡ begins_item met-field
    is = begins-is rec c t kind b (f.1 g.inside).0 k begins

    now-at : item_sought rec n ≡ item_from (items_read (met-field ∷ ahead rec t.after)) left
    now-at = g.same ∙ ap (λ (fs : List Field). item_from (items_read fs) left) f.0

    pub going-met : met_by b left ≡ prelude.None → Seeks rec n (prelude.Some t)
    going-met h = (now-at ∙ sought-met met-field (ahead rec t.after) left b is h, record { inside = (f.1 g.inside).0; still = (f.1 g.inside).1 })

    pub going_on : (more : ℕ) → met_by b left ≡ prelude.Some more → Going rec n t.after more
    going_on more h = record { inside = (f.1 g.inside).1; same = now-at ∙ another-met met-field (ahead rec t.after) left more b is h }

-- ---- the next field

module _ (rec : Bytes) (c : Cursor) (i : Inside rec c) where
  pub none-taken : Follows rec c prelude.None → Takes rec c (record { start = record { 0 = 0 }; length = 0; after = c })
  unfolding first_bytes
  none-taken e = record { bytes = sym (rw e); rest = e ∙ sym (rw e); stands = record { inside = zero-le; still = i } }

  pub some-taken : (t : FieldStep) → Follows rec c (prelude.Some t) → Takes rec c t
  unfolding first_bytes
  some-taken t f = record { bytes = sym (rw f.0); rest = sym (rw f.0); stands = record { inside = (f.1 i).0; still = (f.1 i).1 } }

-- ---- a type, its amount and its item count

second_is : (fs : List Field) → second_bytes fs ≡ first_bytes (drop 1 fs)
unfolding second_bytes first_bytes
second_is [] = refl
second_is (f ∷ fs) = refl

-- the numbers of an item whose type is t, with its fields taken one after the other
module _ (rec : Bytes) (c : Cursor) (t x y : FieldStep) (first : Takes rec c x) (second : Takes rec x.after y) where
  count-bytes : bytes_in rec y ≡ second_bytes (ahead rec c)
  count-bytes = second.bytes ∙ ap first_bytes first.rest ∙ sym (second_is (ahead rec c))

  pub item-is : (n : ℕ) (a : Amount) (k : Option ℕ) → n ≡ value_of (bytes_in rec t) → a ≡ amount_read (bytes_in rec x) → k ≡ count_read (bytes_in rec y)
      → record { type = n; amount = a; count = k } ≡ item_read (bytes_in rec t) (ahead rec c)
  unfolding item_read
  item-is n a k hn ha hk = rw (hn, ha, hk, first.bytes, count-bytes)
