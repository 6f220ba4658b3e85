-- A result written part by part: each call is lent the rest of the slice. Assumes nothing.
use Prim.Native.Nat.{ℕ, ◌+◌, ◌-◌, ◌≤◌, ◌<◌}
use native.Mathlib.Nat.{zero-add}
use native.Mathlib.Numerals.{add-one}
use native.Mathlib.Omega.{arith}
use mathlib.Core.Path.{◌≡◌, refl, sym, ap, subst, ◌∙◌}
use mathlib.Core.List.{List, [], ◌++◌, append_assoc, append-nil}
use borrow.Rule.Slice.PartMut.{mid_of, put_mid}
use lib.ListN.{length, get_or, take, drop, set, length-append, length-drop, take-append-drop}
use lib.Seq.{paste, paste-suc, take-length, take-append_seam, drop-append_seam, length-take-le, drop-drop}
use Rattle.rules.specs.Bytes.{Bytes}
use Rattle.base_numerals.specs.PutBytes.{Put}
use Rattle.base_numerals.proofs.PutLaws.{put-fits, put_count, put-bytes, rest-is, rest_back}
use Rattle.base_slices.specs.WroteBytes.{Wrote}

-- ---- one turn of the loop that copies

module _ {A : Type 0} (before src out : List A) (i : ℕ) where
  pub put-turn : (d : A) → i < length before → i < length src → out ≡ paste before 0 src i → set out i (get_or src i d) ≡ paste before 0 src (i + 1)
  put-turn d h k e =
      ap (λ (n : ℕ). set out n (get_or src i d)) (sym (zero-add i)) ∙ rw (e, add-one) (paste-suc before 0 src i d (omega arith) k)

  pub put_all : length src ≤ length before → i ≡ length src → out ≡ paste before 0 src i → Put src before i out
  put_all h n e = put-fits src before i out h n (e ∙ rw (n, take-length, zero-add))

-- ---- part by part

pub wrote_none : (result out : Bytes) → length result ≤ length out → Wrote result out 0 result out
wrote_none result out h = record { done = refl; tail = refl; long = refl; room = omega arith }

-- the next part, put by a call that is lent the rest
module _ (result before : Bytes) (o : ℕ) (part rest out : Bytes) (r : ℕ) (after : Bytes)
    (w : Wrote result before o (part ++ rest) out) (p : Put part (mid_of o (length out - o) out) r after) where
  sizes : length (part ++ rest) ≡ length part + length rest
  sizes = length-append part rest

  inside : o + length part ≤ length out
  inside = omega (arith, w.room, w.long, sizes)

  lent : Put part (drop o out) r after
  lent = rw (rest-is o out) at p

  fits : length part ≤ length (drop o out)
  fits = rw length-drop (omega (arith, inside))

  pub part_count : r ≡ length part
  part_count = put_count lent fits

  stands : put_mid o (length out - o) out after ≡ take o out ++ (part ++ drop (length part) (drop o out))
  stands = rest_back o out after (omega (arith, inside)) ∙ ap (λ (bs : Bytes). take o out ++ bs) (put-bytes lent fits)

  front : length (take o out) ≡ o
  front = length-take-le o out (omega (arith, inside))

  pub wrote-part : Wrote result before (o + r) rest (put_mid o (length out - o) out after)
  wrote-part =
      let tail : Bytes = drop (length part) (drop o out) in
      let size : length (take o out ++ part) ≡ o + length part = length-append (take o out) part ∙ ap (λ (n : ℕ). n + length part) front in
      let whole : put_mid o (length out - o) out after ≡ (take o out ++ part) ++ tail = stands ∙ sym (append_assoc (take o out) part tail) in
      rw (part_count, whole)
      (record {
        done = rw (← size, take-append_seam (take o out ++ part) tail) (append_assoc (take o out) part rest ∙ w.done);
        tail =
            rw (← size) (drop-append_seam (take o out ++ part) tail)
            ∙ ap (λ (bs : Bytes). drop (length part) bs) w.tail ∙ drop-drop (length part) o before;
        long = length-append (take o out ++ part) tail ∙ rw (size, length-drop, length-drop) (omega (arith, inside, w.long));
        room = omega (arith, w.room, sizes);
      })

-- all is written
pub wrote-all : {result before : Bytes} {o : ℕ} {out : Bytes} → Wrote result before o [] out → out ≡ result ++ drop (length result) before
wrote-all {result} {before} {o} {out} w =
    let d : take o out ≡ result = sym (append-nil (take o out)) ∙ w.done in
    let n : length result ≡ o = sym (ap length d) ∙ length-take-le o out (omega (arith, w.room, w.long)) in
    sym (take-append-drop o out) ∙ rw (d, w.tail, n)

-- the first part, put by a call that is lent all
pub wrote-first : (part rest before : Bytes) (r : ℕ) (after : Bytes) → length (part ++ rest) ≤ length before → Put part before r after → Wrote (part ++ rest) before r rest after
wrote-first part rest before r after h p =
    let sizes = length-append part rest in
    let fits : length part ≤ length before = omega arith in
    let whole = put-bytes p fits in
    rw (put_count p fits, whole)
    (record {
      done = rw (take-append_seam part (drop (length part) before));
      tail = drop-append_seam part (drop (length part) before);
      long = length-append part (drop (length part) before) ∙ rw length-drop (omega arith);
      room = omega arith;
    })

-- and so the whole was put
pub wrote-put : (result before : Bytes) (o : ℕ) (out : Bytes) → Wrote result before o [] out → Put result before o out
wrote-put result before o out w =
    let d : take o out ≡ result = sym (append-nil (take o out)) ∙ w.done in
    let n : length result ≡ o = sym (ap length d) ∙ length-take-le o out (omega (arith, w.room, w.long)) in
    put-fits result before o out (omega (arith, w.room)) (sym n) (wrote-all w)

-- the last part
pub wrote-last : (result before : Bytes) (o : ℕ) (part out : Bytes) (r : ℕ) (after : Bytes) → Wrote result before o part out → Put part (mid_of o (length out - o) out) r after
    → Put result before (o + r) (put_mid o (length out - o) out after)
wrote-last result before o part out r after w p =
    wrote-put result before (o + r) (put_mid o (length out - o) out after)
    (wrote-part result before o part [] out r after (subst (λ (bs : Bytes). Wrote result before o bs out) (sym (append-nil part)) w) p)

-- a call that is lent the rest puts no more than that
pub within-rest : (o : ℕ) (part out : Bytes) (r : ℕ) (after : Bytes) → o ≤ length out → Put part (mid_of o (length out - o) out) r after → o + r ≤ length out
within-rest o part out r after h p = let q = rw (rest-is o out) at p.within in omega (arith, length-drop o out)

-- and it is lent enough for the next part
pub has_room : (result before : Bytes) (o : ℕ) (part rest out : Bytes) → Wrote result before o (part ++ rest) out → length part ≤ length (mid_of o (length out - o) out)
has_room result before o part rest out w = rw (rest-is o out) (omega (arith, length-drop o out, length-append part rest, w.room, w.long))
