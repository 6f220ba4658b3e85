-- Good fields: what acceptance says of them, how long they are, and the kinds that they are taken as. Assumes nothing.
use mathlib.Core.Path.{◌≡◌, refl}
use mathlib.Core.Bool.{Bool, true, false, cond, not, ◌&&◌, ◌||◌, false≢true}
use mathlib.Core.List.{List, [], ◌∷◌, ◌++◌, append-nil}
use Prim.Native.Nat.{ℕ, suc, ◌≤◌}
use native.Mathlib.Omega.{arith}
use lib.Dec.{leb, eqb}
use lib.ListN.{length}
use borrow.Author.Tests.{leb-true, eqb-true}
use Rattle.rules.specs.Bytes.{Bytes, all, between, is_empty, plus, minus, clean, starts_with, one_of, just}
use Rattle.rules.specs.Numbers.{digits, number, without_sign}
use Rattle.rules.specs.Dates.{is_date, is_time}
use Rattle.rules.specs.Outcome.{Outcome, fine, ◌>>=◌, check}
use Rattle.rules.specs.Grammar.{Kind, name, reference, ultimate_receiver, date, time, time_or_none, file_number, physical_length, block_size, version, group_status, currency, modifier, first_type}
use Rattle.rules.specs.Grammar.{further_type, status_amount, amount, item_count, funds, detail_type, text, further_text, split_amount, pair_count, days, day_amount, total, count, records, nothing}
use Rattle.rules.specs.Grammar.{kind_number, Judged, bad, good, fits, is_currency, is_signed, is_unsigned, is_length, judged, is_text, and_then, take_next}
use Rattle.rules.specs.Writer.{or_twenty, kinds_after}
use Rattle.rules.proofs.Binds.{refused-fine}
use Rattle.base_digits.proofs.DigitTests.{and_left, and_right, at_most}
use Rattle.base_digits.proofs.ReadingLaws.{digits-at-most}

-- ---- what acceptance says of the first field

pub bad-good : {P : Type 0} (n : ℕ) (new : List Kind) → bad n ≡ good new → P
bad-good n new h = let z : ◌≡◌ {A = ℕ} 0 1 = cc in absurd (omega arith)

next-kinds : {P : Type 0} (j : Judged) (ks : List Kind) (fs : List Bytes) (left : List Kind) → (or_twenty (and_then j ks) >>= λ next. kinds_after next fs) ≡ fine left
    → ((new : List Kind) → j ≡ good new → kinds_after (new ++ ks) fs ≡ fine left → P) → P
unfolding and_then
next-kinds (bad n) ks fs left h go = absurd (refused-fine _ left h)
next-kinds (good new) ks fs left h go = go new refl h

clean-first : {P : Type 0} (t : Bool) (o : Outcome (List Kind)) (left : List Kind) → (check t 20 0 >>= λ _. o) ≡ fine left → (t ≡ true → o ≡ fine left → P) → P
clean-first true o left h go = go refl h
clean-first false o left h go = absurd (refused-fine _ left h)

-- it is clean and good, and the rest is accepted after it
pub from_field : {P : Type 0} (k : Kind) (f : Bytes) (ks : List Kind) (fs : List Bytes) (left : List Kind) → kinds_after (k ∷ ks) (f ∷ fs) ≡ fine left
    → ((new : List Kind) → clean f ≡ true → judged k f ≡ good new → kinds_after (new ++ ks) fs ≡ fine left → P) → P
unfolding kinds_after take_next
from_field k f ks fs left h go =
    clean-first (clean f) _ left h (λ c rest.
    next-kinds (judged k f) ks fs left rest (λ new j q. go new c j q))

pub none_left : (ks left : List Kind) → kinds_after ks [] ≡ fine left → ks ≡ left
unfolding kinds_after
none_left ks left h = cc

-- ---- how long a good field is

module _ (f : Bytes) where
  pub digits-short : (lo hi : ℕ) → hi ≤ 76 → digits lo hi f ≡ true → length f ≤ 76
  digits-short lo hi h e = omega (arith, digits-at-most lo hi f e)

  pub one-short : (lo hi : ℕ) → one_of lo hi f ≡ true → length f ≤ 76
  unfolding one_of
  one-short lo hi e = go f e
    where
      go : (bs : Bytes) → one_of lo hi bs ≡ true → length bs ≤ 76
      go [] h = omega arith
      go (b ∷ []) h = omega arith
      go (b ∷ c ∷ bs) h = absurd (false≢true h)

  pub empty-short : is_empty f ≡ true → length f ≤ 76
  unfolding is_empty
  empty-short e = go f e
    where
      go : (bs : Bytes) → is_empty bs ≡ true → length bs ≤ 76
      go [] h = omega arith
      go (b ∷ bs) h = absurd (false≢true h)

  -- a test that held of a field that isn't empty
  or-empty : (t : Bool) → (t ≡ true → length f ≤ 76) → (is_empty f || t) ≡ true → length f ≤ 76
  unfolding is_empty
  or-empty t k e = go f k e
    where
      go : (bs : Bytes) → (t ≡ true → length bs ≤ 76) → (is_empty bs || t) ≡ true → length bs ≤ 76
      go [] j h = omega arith
      go (b ∷ bs) j h = j h

sign-step : (b : ℕ) (bs : Bytes) (t : Bool) → length (b ∷ bs) ≤ suc (length (cond t bs (b ∷ bs)))
sign-step b bs true = omega arith
sign-step b bs false = omega arith

sign-short : (f : Bytes) → length f ≤ suc (length (without_sign f))
unfolding without_sign
sign-short [] = omega arith
sign-short (b ∷ bs) = sign-step b bs (eqb b plus || eqb b minus)

signed-short : (f : Bytes) → is_signed f ≡ true → length f ≤ 76
unfolding is_signed
signed-short f h = omega (arith, sign-short f, digits-at-most 1 18 (without_sign f) h)

unsigned-short : (f : Bytes) → is_unsigned f ≡ true → length f ≤ 76
unfolding is_unsigned is_signed
unsigned-short f h = signed-short f (and_left (digits 1 18 (without_sign f)) (not (starts_with minus f)) h)

date-short : (f : Bytes) → is_date f ≡ true → length f ≤ 76
unfolding is_date
date-short f h = digits-short f 6 6 (omega arith) (and_left (digits 6 6 f) _ (and_left _ _ h))

time-short : (f : Bytes) → is_time f ≡ true → length f ≤ 76
unfolding is_time
time-short f h = digits-short f 4 4 (omega arith) (and_left (digits 4 4 f) _ h)

length-short : (f : Bytes) → is_length f ≡ true → length f ≤ 76
unfolding is_length
length-short f h = digits-short f 1 4 (omega arith) (and_left (digits 1 4 f) (between 48 4096 (number f)) h)

currency-short : (f : Bytes) → is_currency f ≡ true → length f ≤ 76
unfolding is_currency
currency-short f =
    or-empty f (eqb (length f) 3 && all (between 65 90) f) (λ t. omega (arith, eqb-true (length f) 3 (and_left (eqb (length f) 3) (all (between 65 90) f) t)))

-- ---- kinds whose good fields add no kinds: all that the writer's fields have, but for types and funds

abbrev pub simple : Kind → Bool
simple k = leb (kind_number k) 13 || (between 16 18 (kind_number k) || leb 27 (kind_number k))

-- such a field is short and no text
pub record Plain (k : Kind) (f : Bytes) (new : List Kind) : Type 0 where
  pub adds : [] ≡ new
  pub short : length f ≤ 76
  pub no_text : is_text k ≡ false

module _ (k : Kind) (f : Bytes) (new : List Kind) (n : is_text k ≡ false) where
  tested : (t : Bool) → (t ≡ true → length f ≤ 76) → fits t ≡ good new → Plain k f new
  tested true s h = record { adds = cc; short = s refl; no_text = n }
  tested false s h = bad-good 8 new h

  version-tested : (t : Bool) → (t ≡ true → length f ≤ 76) → cond t (good []) (bad 9) ≡ good new → Plain k f new
  version-tested true s h = record { adds = cc; short = s refl; no_text = n }
  version-tested false s h = bad-good 9 new h

pub plain-field : (k : Kind) (f : Bytes) (new : List Kind) → simple k ≡ true → judged k f ≡ good new → Plain k f new
unfolding judged
plain-field name f new e h = tested name f new refl (between 1 76 (length f)) (at_most 1 76 (length f)) h
plain-field reference f new e h = tested reference f new refl (leb (length f) 76) (leb-true (length f) 76) h
plain-field ultimate_receiver f new e h = tested ultimate_receiver f new refl (leb (length f) 76) (leb-true (length f) 76) h
plain-field date f new e h = tested date f new refl (is_date f) (date-short f) h
plain-field time f new e h = tested time f new refl (is_time f) (time-short f) h
plain-field time_or_none f new e h = tested time_or_none f new refl (is_empty f || is_time f) (or-empty f (is_time f) (time-short f)) h
plain-field file_number f new e h = tested file_number f new refl (digits 1 9 f) (digits-short f 1 9 (omega arith)) h
plain-field physical_length f new e h = tested physical_length f new refl (is_empty f || is_length f) (or-empty f (is_length f) (length-short f)) h
plain-field block_size f new e h = tested block_size f new refl (digits 0 9 f) (digits-short f 0 9 (omega arith)) h
plain-field version f new e h = version-tested version f new refl (just 50 f) (one-short f 50 50) h
plain-field group_status f new e h = tested group_status f new refl (one_of 49 52 f) (one-short f 49 52) h
plain-field currency f new e h = tested currency f new refl (is_currency f) (currency-short f) h
plain-field modifier f new e h = tested modifier f new refl (is_empty f || one_of 49 52 f) (or-empty f (one_of 49 52 f) (one-short f 49 52)) h
plain-field status_amount f new e h = tested status_amount f new refl (is_empty f || is_signed f) (or-empty f (is_signed f) (signed-short f)) h
plain-field amount f new e h = tested amount f new refl (is_empty f || is_unsigned f) (or-empty f (is_unsigned f) (unsigned-short f)) h
plain-field item_count f new e h = tested item_count f new refl (digits 0 9 f) (digits-short f 0 9 (omega arith)) h
plain-field total f new e h = tested total f new refl (is_signed f) (signed-short f) h
plain-field count f new e h = tested count f new refl (digits 1 9 f) (digits-short f 1 9 (omega arith)) h
plain-field records f new e h = tested records f new refl (digits 1 9 f) (digits-short f 1 9 (omega arith)) h
plain-field nothing f new e h = tested nothing f new refl (is_empty f) (empty-short f) h
plain-field first_type f new e h = absurd (false≢true e)
plain-field further_type f new e h = absurd (false≢true e)
plain-field funds f new e h = absurd (false≢true e)
plain-field detail_type f new e h = absurd (false≢true e)
plain-field text f new e h = absurd (false≢true e)
plain-field further_text f new e h = absurd (false≢true e)
plain-field split_amount f new e h = absurd (false≢true e)
plain-field pair_count f new e h = absurd (false≢true e)
plain-field days f new e h = absurd (false≢true e)
plain-field day_amount f new e h = absurd (false≢true e)

-- ---- fields taken one after the other

-- as these kinds, where these were wanted and these are wanted after them
pub data Takes : List Kind → List Bytes → List Kind → List Kind → Type 0 where
  done : {ks : List Kind} → Takes ks [] [] ks
  one :
      {k : Kind} {f : Bytes} {ks new next used left : List Kind} {fs : List Bytes}
      → clean f ≡ true → length f ≤ 76 → is_text k ≡ false → judged k f ≡ good new → new ++ ks ≡ next → Takes next fs used left
      → Takes (k ∷ ks) (f ∷ fs) (k ∷ used) left

-- no field is left
pub all-taken : (ks left : List Kind) → kinds_after ks [] ≡ fine left → Takes ks [] [] left
all-taken ks left h = rw (none_left ks left h) done

abbrev pub simples : List Kind → Bool
simples [] = true
simples (k ∷ ks) = simple k && simples ks

-- fields of simple kinds in front of others
pub in-front : (ks tail : List Kind) (gs rest : List Bytes) (left : List Kind) → simples ks ≡ true → length ks ≡ length gs → kinds_after (ks ++ tail) (gs ++ rest) ≡ fine left
    → (kinds_after tail rest ≡ fine left) × ((used : List Kind) → Takes tail rest used left → Takes (ks ++ tail) (gs ++ rest) (ks ++ used) left)
in-front [] tail [] rest left s n h = (h, λ used t. t)
in-front [] tail (g ∷ gs) rest left s n h = absurd (omega arith)
in-front (k ∷ ks) tail [] rest left s n h = absurd (omega arith)
in-front (k ∷ ks) tail (f ∷ gs) rest left s n h =
    from_field k f (ks ++ tail) (gs ++ rest) left h (λ new c j q.
    let g = plain-field k f new (and_left (simple k) (simples ks) s) j in
    let m : kinds_after (ks ++ tail) (gs ++ rest) ≡ fine left = rw (← g.adds) at q in
    let t = in-front ks tail gs rest left (and_right (simple k) (simples ks) s) (omega arith) m in
    (t.0, λ used u. one c g.short g.no_text j (rw (← g.adds)) (t.1 used u)))

-- all fields of simple kinds
pub takes_all : (ks : List Kind) (fs : List Bytes) (left : List Kind) → simples ks ≡ true → length ks ≡ length fs → kinds_after ks fs ≡ fine left → ([] ≡ left) × Takes ks fs ks []
takes_all ks fs left s n h =
    let k : kinds_after (ks ++ []) (fs ++ []) ≡ fine left = rw (append-nil ks, append-nil fs) h in
    let t = in-front ks [] fs [] left s n k in
    let e = none_left [] left t.0 in
    (e, rw (append-nil ks, append-nil fs, ← e) at (t.1 [] (all-taken [] left t.0)))
