-- 18, 15, or the result: the answers by the result's length. Assumes nothing.
use Prim.Native.Nat.{ℕ, ◌≤◌}
use native.Mathlib.Omega.{arith}
use mathlib.Core.Path.{◌≡◌, sym, ap, ◌∙◌}
use borrow.Author.Tests.{le-leb}
use lib.Dec.{leb, leb→le}
use lib.ListN.{length, take, drop, length-take, length-drop}
use lib.Seq.{length-take-le}
use Rattle.rules.specs.Bytes.{Bytes}
use Rattle.rules.specs.Outcome.{Refusal, not_refused, Outcome, refused, fine, ◌>>◌, check}
use Rattle.rules.specs.Limits.{longest_file}
use Rattle.rules.specs.Combine.{Answer, answered, has_room, fitting}
use Rattle.rules.proofs.Binds.{first_fine, then-fine, check-holds}
use Rattle.base_numerals.specs.PutBytes.{Put}
use Rattle.base_numerals.proofs.PutLaws.{put_count, put-bytes}

module _ (result before : Bytes) (which : ℕ) where
  -- refused where it has no room
  pub not-fitting : (why : Refusal) → refused why ≡ has_room (length result) (length before) → answered (refused why) which before ≡ answered (fitting result (length before)) which before
  unfolding fitting
  not-fitting why e = ap (λ (o : Outcome (Unit {0})). answered (o >> fine result) which before) e

  pub written : length result ≤ longest_file → length result ≤ length before → (r : ℕ) (after : Bytes) → Put result before r after
      → ◌≡◌ {A = Answer} (record { refusal = not_refused; which = 0; len = r; output = after }) (answered (fitting result (length before)) which before)
  unfolding fitting answered
  written h k r after p = rw (le-leb (length result) longest_file h, le-leb (length result) (length before) k, put_count p k, put-bytes p k)

-- what it says that a result has room
pub has-room : (n room : ℕ) → n ≤ longest_file → n ≤ room → fine tt ≡ has_room n room
has-room n room h k = rw (le-leb n longest_file h, le-leb n room k)

pub room-says : (n room : ℕ) → fine tt ≡ has_room n room → (n ≤ longest_file) × (n ≤ room)
room-says n room e =
    let long = check (leb n longest_file) 18 0 in
    let short = check (leb n room) 15 0 in
    let f : (long >> short) ≡ fine tt = sym e in (
      leb→le n longest_file (check-holds (leb n longest_file) 18 0 (first_fine long short tt f)),
      leb→le n room (check-holds (leb n room) 15 0 (then-fine long short tt f)),
    )

-- ---- parts of slices

-- a part has no more bytes than the whole
pub part-most : (m n k : ℕ) (xs : Bytes) → length xs ≤ m → length (take n (drop k xs)) ≤ m
part-most m n k xs h = omega (arith, length-take n (drop k xs), length-drop k xs)

-- so many bytes in front are so many
pub front-size : (bs xs : Bytes) (k : ℕ) → take k xs ≡ bs → k ≤ length xs → length bs ≡ k
front-size bs xs k e h = ap length (sym e) ∙ length-take-le k xs h
