-- The first byte outside in a block of 64, found with no early exit. Assumes nothing.
use Prim.Native.Nat.{ℕ, zero, suc, ◌+◌, ◌≤◌, ◌<◌, min}
use mathlib.Core.Path.{◌≡◌, ap, ◌∙◌}
use mathlib.Core.Bool.{true, false, cond}
use native.Mathlib.Omega.{arith}
use native.Mathlib.Nat.{add-zero}
use borrow.Author.Count.{below_more}
use borrow.Author.Tests.{ltb-true, ltb-false}
use lib.ListN.{length, drop, get_or}
use lib.Dec.{ltb}
use Rattle.rules.specs.Bytes.{Bytes}
use Rattle.rules.proofs.Tests.{Known, holds, fails, known}
use Rattle.read_lines.specs.LineLengths.{run, outside, stops_at}
use Rattle.read_lines.specs.LineAnswers.{BlockIs}
use Rattle.read_lines.proofs.RunLengths.{run-stop, run_step}

module _ (s : Bytes) (at high : ℕ) where
  -- of the first i bytes, `first` is the first outside; or none is, and it is 255
  pub record Nearest (i first : ℕ) : Type 0 where
    pub plain : (k : ℕ) → k < i → k < first → outside high (get_or s (at + k) 0) ≡ false
    pub low : first ≤ 255
    pub there : first < 64 → (first < i) × (outside high (get_or s (at + first) 0) ≡ true)

  pub nearest-none : Nearest 0 255
  nearest-none = record { plain = λ k h l. absurd (omega arith); low = omega arith; there = λ h. absurd (omega arith) }

  nearest-hit : (i first : ℕ) → i < 64 → Nearest i first → outside high (get_or s (at + i) 0) ≡ true → Known (ltb first 64) → Nearest (i + 1) (min i first)
  nearest-hit i first h n e (holds t) =
      let l = ltb-true first 64 t in
      let f = n.there l in
      let z : min i first ≡ first = omega arith in
      rw z (record { plain = λ k a b. n.plain k (omega arith) b; low = n.low; there = λ a. (omega arith, f.1) })
  nearest-hit i first h n e (fails t) =
      let l = ltb-false first 64 t in
      let z : min i first ≡ i = omega arith in
      rw z (record { plain = λ k a b. n.plain k b (omega arith); low = omega arith; there = λ a. (omega arith, e) })

  nearest-miss : (i first : ℕ) → Nearest i first → outside high (get_or s (at + i) 0) ≡ false → Nearest (i + 1) (min 255 first)
  nearest-miss i first n e =
      let z : min 255 first ≡ first = omega (arith, n.low) in
      rw z (record { plain = below_more _ _ n.plain (λ l. e); low = n.low; there = λ a. let f = n.there a in (omega arith, f.1) })

  pub nearest-step : (i first : ℕ) → i < 64 → Nearest i first → Nearest (i + 1) (min (cond (outside high (get_or s (at + i) 0)) i 255) first)
  nearest-step i first h n = by-test (known (outside high (get_or s (at + i) 0)))
    where
      by-test : Known (outside high (get_or s (at + i) 0)) → Nearest (i + 1) (min (cond (outside high (get_or s (at + i) 0)) i 255) first)
      by-test (holds e) = rw e (nearest-hit i first h n e (known (ltb first 64)))
      by-test (fails e) = rw e (nearest-miss i first n e)

  -- a search goes on after plain bytes
  run-skip : (n : ℕ) → at + n ≤ length s → ((k : ℕ) → k < n → outside high (get_or s (at + k) 0) ≡ false)
      → at + run (stops_at high) (drop at s) ≡ at + n + run (stops_at high) (drop (at + n) s)
  run-skip zero h p = rw add-zero
  run-skip (suc n) h p =
      let z : at + n + 1 ≡ at + suc n = omega arith in
      run-skip n (omega arith) (λ k l. p k (omega arith))
      ∙ run_step (stops_at high) s (at + n) (omega arith) (p n (omega arith))
      ∙ ap (λ (m : ℕ). m + run (stops_at high) (drop m s)) z

  pub block-is : (first : ℕ) → at + 64 ≤ length s → Nearest 64 first → BlockIs s at high first
  block-is first h n =
      record {
        low = n.low;
        found = λ l.
            let f = n.there l in
            let a = run-skip first (omega arith) (λ k b. n.plain k (omega arith) b) in
            let b = run-stop (stops_at high) s (at + first) (omega arith) f.1 in
            omega arith;
        missed = λ e. run-skip 64 h (λ k b. n.plain k b (omega arith));
      }
