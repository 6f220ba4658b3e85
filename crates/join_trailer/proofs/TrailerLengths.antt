-- No fresh 99 is longer than 80 bytes, and what such bytes hold of one. Assumes nothing.
use Prim.Native.Nat.{ℕ, zero, suc, ◌-◌, ◌≤◌, ◌<◌}
use native.Mathlib.Nat.{sub-zero, zero-sub, suc-sub-suc}
use native.Mathlib.Omega.{arith}
use mathlib.Core.Path.{◌≡◌, refl, ◌∙◌}
use lib.ListN.{length, take, drop, replicate, length-append, length-replicate}
use lib.Seq.{take-append_seam}
use Rattle.rules.specs.Bytes.{Bytes}
use Rattle.rules.specs.Numbers.{Sum}
use Rattle.base_digits.proofs.DigitStrings.{decimal-at-most, decimal-short}
use Rattle.base_digits.proofs.TotalStrings.{total-short}
use Rattle.base_numerals.specs.PutBytes.{Put}
use Rattle.base_numerals.proofs.PutLaws.{put_count, put-bytes}
use Rattle.join_trailer.specs.FreshTrailer.{last_line, trailer_of}
use Rattle.join_trailer.specs.declared.Trailer.{Trailer}

pub last-most : (a : Sum) (groups records : ℕ) → a.pluses < 18446744073709551616 → a.minuses < 18446744073709551616 → groups < 18446744073709551616 → records < 18446744073709551616
    → length (last_line a groups records) ≤ 80
unfolding last_line
last-most a groups records p m g r =
    simp length-append (omega (arith, total-short a p m, decimal-short groups g, decimal-short records r))

-- nor than 64, where its counts are a file's
pub last-short : (a : Sum) (groups records : ℕ) → a.pluses < 18446744073709551616 → a.minuses < 18446744073709551616 → groups < 1000000000 → records < 1000000000
    → length (last_line a groups records) ≤ 64
unfolding last_line
last-short a groups records p m g r =
    simp length-append (omega (arith, total-short a p m, decimal-at-most 9 groups (omega arith) (omega arith), decimal-at-most 9 records (omega arith) (omega arith)))

-- ---- in 80 bytes

drop-same : (b k n : ℕ) → drop k (replicate n b) ≡ replicate (n - k) b
drop-same b zero n = rw (sub-zero n)
drop-same b (suc k) zero = rw (zero-sub (suc k))
drop-same b (suc k) (suc n) = rw (suc-sub-suc n k) (drop-same b k n)

-- what was put into 80 zeros
pub put-80 : (bs : Bytes) (r : ℕ) (after : Bytes) → length bs ≤ 80 → Put bs (replicate 80 0) r after
    → (◌≡◌ {A = Trailer} (record { bytes = after; length = r }) (trailer_of bs)) × (r ≤ 80) × (length after ≡ 80)
unfolding trailer_of
put-80 bs r after h p =
    rw (put_count p h, put-bytes p h, drop-same 0 (length bs) 80) (
      refl,
      h,
      length-append bs (replicate (80 - length bs) 0) ∙ rw (length-replicate {A = ℕ} (80 - length bs) 0) (omega arith),
    )

-- it stands in front
pub in-front : (bs : Bytes) (r : Trailer) → r ≡ trailer_of bs → take r.length r.bytes ≡ bs
unfolding trailer_of
in-front bs r e = rw e (take-append_seam bs (replicate (80 - length bs) 0))
