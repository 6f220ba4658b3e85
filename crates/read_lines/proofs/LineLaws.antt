-- Lines one after the other and the record's extent, at the places that the code reaches. Assumes nothing.
use Prim.Native.Nat.{ℕ, zero, suc, ◌+◌, ◌-◌, ◌≤◌, ◌<◌}
use mathlib.Core.Path.{◌≡◌, refl, ap, sym, ◌∙◌}
use mathlib.Core.List.{[], ◌∷◌}
use mathlib.Core.Bool.{true, false}
use native.Mathlib.Omega.{arith}
use native.Mathlib.Nat.{zero-add, add-zero, suc-add}
use borrow.Author.Tests.{leb-true, leb-false}
use lib.ListN.{length, take, drop, drop_of_length-le, length-drop, length-take}
use lib.Seq.{drop-drop, take-nil}
use lib.Dec.{leb}
use Rattle.rules.specs.Bytes.{Bytes, same_bytes}
use Rattle.rules.specs.Lines.{lines_of, continuation, code_bytes, record_size}
use Rattle.rules.proofs.Tests.{Known, holds, fails, known}
use Rattle.read_lines.specs.LineLengths.{run, stops_at, body_len, end_len, line_len, first_line, further, first_record}
use Rattle.read_lines.proofs.LineLengthLaws.{first_of, line-some, line-fits, body-of-part}
use Rattle.read_lines.proofs.OneRecord.{first-size}
use Rattle.read_lines.proofs.Fronts.{body-after, begins-front}

-- the line's end is where a search from the first byte that is not plain finds it
pub body-from : (s : Bytes) (at i high : ℕ) → i ≡ at + run (stops_at high) (drop at s) → at + body_len (drop at s) ≡ i + body_len (drop i s)
body-from s at i high p =
    let d : drop (run (stops_at high) (drop at s)) (drop at s) ≡ drop i s = drop-drop (run (stops_at high) (drop at s)) at s ∙ ap (λ (n : ℕ). drop n s) (sym p) in
    let c : body_len (drop at s) ≡ run (stops_at high) (drop at s) + body_len (drop i s) = body-after high (drop at s) ∙ rw d in
    omega arith

-- the end of a line in the file, and the next line
module _ (s : Bytes) (at e n : ℕ) (p : e ≡ at + body_len (drop at s)) (q : n ≡ e + end_len (drop e s)) where
  pub next-is : n ≡ at + line_len (drop at s)
  next-is =
      let d : drop (body_len (drop at s)) (drop at s) ≡ drop e s = drop-drop (body_len (drop at s)) at s ∙ ap (λ (n : ℕ). drop n s) (sym p) in
      let c : line_len (drop at s) ≡ body_len (drop at s) + end_len (drop e s) = rw d in
      omega arith

  pub next-within : n ≤ length s + (at - length s)
  next-within = let l = length-drop at s in let b = line-fits (drop at s) in omega (arith, next-is)

  pub next-after : at < length s → at < n
  next-after h = let l = length-drop at s in let b = line-some (drop at s) (omega arith) in omega (arith, next-is)

-- ---- among the first bytes

pub take-drop : (a k : ℕ) (l : Bytes) → take k (drop a l) ≡ drop a (take (a + k) l)
take-drop zero k l = ap (λ (n : ℕ). take n l) (sym (zero-add k))
take-drop (suc a) k [] = take-nil k ∙ sym (ap (λ (l : Bytes). drop (suc a) l) (take-nil (suc a + k)))
take-drop (suc a) k (x ∷ xs) = take-drop a k xs ∙ ap (λ (n : ℕ). drop (suc a) (take n (x ∷ xs))) (sym (suc-add a k))

-- a line that ends there with its end is found there
pub body-in : (s : Bytes) (size at e n : ℕ) → e ≡ at + body_len (drop at s) → n ≡ e + end_len (drop e s) → n ≤ size → e ≡ at + body_len (drop at (take size s))
unfolding run
body-in s size at e n p q h = by_size (known (leb (length s) at))
  where
    by_size : Known (leb (length s) at) → e ≡ at + body_len (drop at (take size s))
    by_size (holds t) =
        let l = leb-true (length s) at t in
        let a = drop_of_length-le s {i = at} l in
        let b = drop_of_length-le (take size s) {i = at} (omega (arith, length-take size s)) in
        p ∙ rw (a, b)
    by_size (fails t) =
        let l = leb-false (length s) at t in
        let next = next-is s at e n p q in
        let m : at + (size - at) ≡ size = omega arith in
        let part : take (size - at) (drop at s) ≡ drop at (take size s) = take-drop at (size - at) s ∙ ap (λ (k : ℕ). drop at (take k s)) m in
        let same = body-of-part (drop at s) (size - at) (omega (arith, length-drop at s)) (omega arith) in
        p ∙ ap (λ (k : ℕ). at + k) (sym same ∙ ap (λ (xs : Bytes). body_len xs) part)

-- ---- lines one after the other

pub lines-here : (s : Bytes) (at n : ℕ) → at < length s → n ≡ at + line_len (drop at s) → lines_of (drop at s) ≡ first_line (drop at s) ∷ lines_of (drop n s)
lines-here s at n h p =
    let l = length-drop at s in
    first_of (drop at s) (omega arith) ∙ ap (λ (xs : Bytes). first_line (drop at s) ∷ lines_of xs) (drop-drop (line_len (drop at s)) at s ∙ ap (λ (k : ℕ). drop k s) (sym p))

-- ---- its 88 lines, by the test of the three bytes at `at`

module _ (s : Bytes) (at : ℕ) where
  pub further-some : same_bytes (code_bytes continuation) (take 3 (drop at s)) ≡ true → at < length s
  unfolding same_bytes
  further-some t = by_size (known (leb (length s) at))
    where
      by_size : Known (leb (length s) at) → at < length s
      by_size (holds q) =
          let z : false ≡ true = rw (drop_of_length-le s {i = at} (leb-true (length s) at q)) at t in let y : ◌≡◌ {A = ℕ} 0 1 = cc in absurd (omega arith)
      by_size (fails q) = leb-false (length s) at q

  pub further-none : same_bytes (code_bytes continuation) (take 3 (drop at s)) ≡ false → further (lines_of (drop at s)) ≡ []
  unfolding further lines_of
  further-none t = by_size (known (leb (length s) at))
    where
      by_size : Known (leb (length s) at) → further (lines_of (drop at s)) ≡ []
      by_size (holds q) = rw (drop_of_length-le s {i = at} (leb-true (length s) at q))
      by_size (fails q) =
          rw (lines-here s at (at + line_len (drop at s)) (leb-false (length s) at q) refl, begins-front continuation (drop at s) ∙ t)

  module _ (t : same_bytes (code_bytes continuation) (take 3 (drop at s)) ≡ true) where
    pub further-first : (n : ℕ) → n ≡ at + line_len (drop at s) → further (lines_of (drop at s)) ≡ first_line (drop at s) ∷ further (lines_of (drop n s))
    unfolding further
    further-first n p = rw (lines-here s at n (further-some t) p, begins-front continuation (drop at s) ∙ t)

    pub further-size : (n : ℕ) → n ≡ at + line_len (drop at s) → at + record_size (further (lines_of (drop at s))) ≡ n + record_size (further (lines_of (drop n s)))
    unfolding record_size
    further-size n p = rw (further-first n p) (let z = first-size (drop at s) in omega arith)

    pub further-count : (n : ℕ) → n ≡ at + line_len (drop at s) → length (further (lines_of (drop at s))) ≡ suc (length (further (lines_of (drop n s))))
    further-count n p = rw (further-first n p)

-- ---- the record's end alone

pub record-start : (s : Bytes) (at n : ℕ) → n ≡ at + line_len (drop at s) → at + record_size (first_record (lines_of (drop at s))) ≡ n + record_size (further (lines_of (drop n s)))
unfolding first_record record_size lines_of further run
record-start s at n p = by_size (known (leb (length s) at))
  where
    by_size : Known (leb (length s) at) → at + record_size (first_record (lines_of (drop at s))) ≡ n + record_size (further (lines_of (drop n s)))
    by_size (holds q) =
        let e = drop_of_length-le s {i = at} (leb-true (length s) at q) in
        let z : n ≡ at = p ∙ rw e (add-zero at) in
        rw (z, e)
    by_size (fails q) = let z = first-size (drop at s) in rw (lines-here s at n (leb-false (length s) at q) p) (omega arith)
