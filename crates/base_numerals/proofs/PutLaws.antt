-- What a loop knows that writes a number's digits from the last to the first, and the cases of `Put`. Assumes nothing.
use Prim.Native.Nat.{ℕ, suc, ◌+◌, ◌-◌, ◌/◌, ◌%◌, ◌<◌, ◌≤◌, zero-le}
use native.Mathlib.Nat.{le_of_eq}
use native.Mathlib.Omega.{arith}
use mathlib.Core.Path.{◌≡◌, refl, sym, ap, ◌∙◌}
use mathlib.Core.Logic.{⊎_elim}
use mathlib.Core.List.{List, [], ◌∷◌, ◌++◌, append_assoc, append-nil}
use mathlib.Core.Bool.{Bool, true, false, cond}
use borrow.Rule.Slice.PartMut.{mid_of, put_mid, Post-is}
use lib.ListN.{length, take, drop, set, length-append, length-drop, length-set}
use lib.Seq.{drop-cons, drop-set-lt, get_or-set_same, lt-length-set, take_all, drop-length, take-append_seam}
use lib.Dec.{leb}
use borrow.Author.Tests.{le-leb, lt-leb}
use Rattle.rules.specs.Bytes.{Bytes}
use Rattle.rules.specs.Numbers.{decimal}
use Rattle.base_numerals.specs.PutBytes.{Put}
use Rattle.base_digits.proofs.DigitTests.{below-or-from}
use Rattle.base_digits.proofs.DigitStrings.{decimal-small, decimal_step, decimal-some, decimal-longer, decimal-at-most}

-- ---- Put by its two cases, and what it says

module _ {A : Type 0} (bs before : List A) where
  pub put-fits : (r : ℕ) (after : List A) → length bs ≤ length before → r ≡ length bs → after ≡ bs ++ drop (length bs) before → Put bs before r after
  put-fits r after h p q =
      record { count = rw (le-leb (length bs) (length before) h) p; bytes = rw (le-leb (length bs) (length before) h) q; within = omega arith }

  pub put-short : length before < length bs → Put bs before 0 before
  put-short h = record { count = rw (lt-leb (length bs) (length before) h); bytes = rw (lt-leb (length bs) (length before) h); within = zero-le }

module _ {A : Type 0} {bs before : List A} {r : ℕ} {after : List A} (p : Put bs before r after) where
  -- where the bytes fit, they are counted, and stand in front
  pub put_count : length bs ≤ length before → r ≡ length bs
  put_count h = rw (le-leb (length bs) (length before) h) at p.count

  pub put-bytes : length bs ≤ length before → after ≡ bs ++ drop (length bs) before
  put-bytes h = rw (le-leb (length bs) (length before) h) at p.bytes

  -- no more than there are
  pub put-at-most : r ≤ length bs
  put-at-most = go (leb (length bs) (length before)) p.count
    where
      go : (b : Bool) → r ≡ cond b (length bs) 0 → r ≤ length bs
      go true e = omega arith
      go false e = omega arith

-- where the bytes fit, they are the first of the slice, which is as long as it was
pub put-stands : {A : Type 0} {bs before : List A} {r : ℕ} {after : List A} → Put bs before r after → length bs ≤ length before
    → (take r after ≡ bs) × (r ≤ length before) × (length after ≡ length before)
put-stands {A} {bs} {before} p h =
    rw (put_count p h, put-bytes p h) (take-append_seam bs (drop (length bs) before), h, length-append bs (drop (length bs) before) ∙ rw length-drop (omega arith))

-- one answer, and one content of the slice
pub put-unique : {A : Type 0} {bs before : List A} {r r' : ℕ} {after after' : List A} → Put bs before r after → Put bs before r' after' → (r ≡ r') × (after ≡ after')
put-unique p q = (p.count ∙ sym q.count, p.bytes ∙ sym q.bytes)

-- ---- the digits of m are still to be put, before place i

pub record Writing (n : ℕ) (out₀ out : Bytes) (m i : ℕ) : Type 0 where
  pub left : length (decimal m) ≡ i
  pub inside : i ≤ length out
  pub same : length out ≡ length out₀
  pub bytes : decimal m ++ drop i out ≡ decimal n ++ drop (length (decimal n)) out₀

pub start : (n : ℕ) (out : Bytes) (k : ℕ) → k ≡ length (decimal n) → k ≤ length out → Writing n out out n k
start n out k e h = record { left = sym e; inside = h; same = refl; bytes = rw e }

pub one-digit : (m : ℕ) → length (decimal m) ≤ 1 → m < 10
one-digit m h =
    ⊎_elim (λ g. g) (λ g. absurd (omega (arith, decimal-longer m g, decimal-some (m / 10)))) (below-or-from m 10)

more-digits : (m : ℕ) → 1 < length (decimal m) → 10 ≤ m
more-digits m h = ⊎_elim (λ g. absurd (omega (arith, decimal-at-most 1 m (omega arith) g))) (λ g. g) (below-or-from m 10)

-- what stands from a stored byte on
stored : (out : Bytes) (j b : ℕ) → j < length out → drop j (set out j b) ≡ b ∷ drop (suc j) out
stored out j b h =
    rw (drop-cons (set out j b) j 0 (lt-length-set out j b h), get_or-set_same out j b 0 h, drop-set-lt (suc j) out j b (omega arith))

module _ (n : ℕ) (out₀ out : Bytes) (m i : ℕ) (w : Writing n out₀ out m i) where
  pub turn : 1 < i → Writing n out₀ (set out (i - 1) (48 + m % 10)) (m / 10) (i - 1)
  turn h =
      let ten : 10 ≤ m = more-digits m (omega (arith, w.left)) in
      let e : suc (i - 1) ≡ i = omega arith in
      record {
        left = omega (arith, decimal-longer m ten, w.left);
        inside = simp length-set (omega (arith, w.inside));
        same = simp length-set w.same;
        bytes =
            ap (λ (bs : Bytes). decimal (m / 10) ++ bs) (stored out (i - 1) (48 + m % 10) (omega (arith, w.inside)))
            ∙ sym (append_assoc (decimal (m / 10)) ((48 + m % 10) ∷ []) (drop (suc (i - 1)) out))
            ∙ rw (← decimal_step m ten, e) w.bytes;
      }

  pub last : i ≤ 1 → set out 0 (48 + m) ≡ decimal n ++ drop (length (decimal n)) out₀
  last h =
      let e : i ≡ 1 = omega (arith, decimal-some m, w.left) in
      let small : m < 10 = one-digit m (omega (arith, w.left)) in
      stored out 0 (48 + m) (omega (arith, w.inside)) ∙ rw (e, decimal-small m small) at w.bytes

-- i digits are still to be put, those of m; or none, and all stand
pub record Left (n : ℕ) (out₀ out : Bytes) (m i : ℕ) : Type 0 where
  pub more : 0 < i → Writing n out₀ out m i
  pub none : i ≡ 0 → out ≡ decimal n ++ drop (length (decimal n)) out₀

pub all-left : (n : ℕ) (out : Bytes) (k : ℕ) → k ≡ length (decimal n) → k ≤ length out → Left n out out n k
all-left n out k e h = record { more = λ _. start n out k e h; none = λ z. absurd (omega (arith, decimal-some n)) }

pub one-put : (n : ℕ) (out₀ out : Bytes) (m i : ℕ) → Left n out₀ out m i → 0 < i → Left n out₀ (set out (i - 1) (48 + m % 10)) (m / 10) (i - 1)
one-put n out₀ out m i w h =
    let v : Writing n out₀ out m i = w.more h in
    record {
      more = λ g. turn n out₀ out m i v (omega arith);
      none = λ z.
          let small : m < 10 = one-digit m (omega (arith, v.left)) in
          let digit : m % 10 ≡ m = omega arith in
          rw (z, digit) (last n out₀ out m i v (omega arith));
    }

-- ---- the rest of a slice, lent and given back: what `&mut out[a..]` lends, and what `out` is once it is back

pub rest-is : (a : ℕ) (xs : Bytes) → mid_of a (length xs - a) xs ≡ drop a xs
rest-is a xs = take_all (length xs - a) (drop a xs) (le_of_eq (length-drop a xs))

pub rest_back : (a : ℕ) (xs ys : Bytes) → a ≤ length xs → put_mid a (length xs - a) xs ys ≡ take a xs ++ ys
rest_back a xs ys h = rw (Post-is a (length xs) xs h, drop-length xs, append-nil ys)

-- a byte is stored first, and the bytes after it are put by a call that is lent the rest
pub put_first : (b : ℕ) (bs out : Bytes) (r : ℕ) (after : Bytes) → length bs + 1 ≤ length out
    → Put bs (mid_of 1 (length (set out 0 b) - 1) (set out 0 b)) r after
    → Put (b ∷ bs) out (r + 1) (put_mid 1 (length (set out 0 b) - 1) (set out 0 b) after)
put_first b bs [] r after h p = absurd (omega arith)
put_first b bs (x ∷ xs) r after h p =
    let q = rw (rest-is 1 (b ∷ xs)) at p in
    let fits : length bs ≤ length xs = omega arith in
    put-fits (b ∷ bs) (x ∷ xs) (r + 1) (put_mid 1 (length (b ∷ xs) - 1) (b ∷ xs) after) (omega arith) (omega (arith, put_count q fits))
    (rest_back 1 (b ∷ xs) after (omega arith) ∙ ap (λ (zs : Bytes). b ∷ zs) (put-bytes q fits))
