-- Runs of bytes and line ends at an index, as the loops over bytes meet them. Assumes nothing.
use Prim.Native.Nat.{ℕ, suc, ◌+◌, ◌≤◌, ◌<◌}
use mathlib.Core.Path.{◌≡◌, refl}
use mathlib.Core.Bool.{Bool, true, false}
use native.Mathlib.Omega.{arith}
use native.Mathlib.Numerals.{add-one}
use borrow.Author.Tests.{ne_eqb}
use lib.ListN.{length, drop, get_or, drop_of_length-le}
use lib.Seq.{drop-cons}
use Rattle.rules.specs.Bytes.{Bytes, LF, CR}
use Rattle.rules.specs.Lines.{end_bytes, LineEnd, lacking, lf, crlf}
use Rattle.read_lines.specs.LineLengths.{end_of, is_line_end, run, is_end}

module _ (p : ℕ → Bytes → Bool) (xs : Bytes) (i : ℕ) where
  pub run_none : length xs ≤ i → i + run p (drop i xs) ≡ i
  unfolding run
  run_none h = rw (drop_of_length-le xs {i = i} h) (omega arith)

  pub run-stop : i < length xs → p (get_or xs i 0) (drop (suc i) xs) ≡ true → i + run p (drop i xs) ≡ i
  unfolding run
  run-stop h e = rw (drop-cons xs i 0 h, e) (omega arith)

  pub run_step : i < length xs → p (get_or xs i 0) (drop (suc i) xs) ≡ false → i + run p (drop i xs) ≡ i + 1 + run p (drop (i + 1) xs)
  unfolding run
  run_step h e = rw (drop-cons xs i 0 h, e, add-one) (omega arith)

-- a byte that is allowed ends no line
pub plain_byte : (b : ℕ) (bs : Bytes) → 32 ≤ b → is_end b bs ≡ false
plain_byte b bs h = rw (ne_eqb b LF (λ e. omega arith), ne_eqb b CR (λ e. omega arith))

-- ---- line ends at an index

-- a line end that has bytes is one
pub end-some : (e : LineEnd) → 0 < length (end_bytes e) → is_line_end e ≡ true
end-some lacking h = absurd (omega arith)
end-some lf h = refl
end-some crlf h = refl

pub end_empty : (e : LineEnd) → length (end_bytes e) ≤ 0 → is_line_end e ≡ false
end_empty lacking h = refl
end_empty lf h = absurd (omega arith)
end_empty crlf h = absurd (omega arith)

pub is-end-at : (s : Bytes) (i : ℕ) → i < length s → is_end (get_or s i 0) (drop (suc i) s) ≡ is_line_end (end_of (drop i s))
is-end-at s i h = rw (drop-cons s i 0 h)
