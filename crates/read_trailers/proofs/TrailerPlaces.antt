-- A trailer's refusals stand at the places that were kept. Assumes nothing.
use Prim.Native.Nat.{ℕ, ◌≤◌}
use mathlib.Core.Path.{◌≡◌, ap, sym}
use mathlib.Core.Bool.{Bool, true, false}
use native.Mathlib.Omega.{arith}
use lib.Dec.{eqb}
use Rattle.rules.specs.Outcome.{Refusal, Outcome, refused, fine, ◌>>◌, check, place_of}
use Rattle.rules.specs.Numbers.{as_sum, equals, within_most}
use Rattle.rules.specs.Lines.{Code, file_header, group_header, account_header, detail, account_trailer, group_trailer, file_trailer, continuation}
use Rattle.rules.specs.Totals.{Summary}
use Rattle.rules.proofs.Binds.{refused-fine}
use Rattle.read_kept.specs.declared.Kept.{Kept}
use Rattle.read_kept.specs.KeepFields.{Within}
use Rattle.read_trailers.specs.TrailerChecks.{within_k, total_k, count_k, records_k, account_k, trailer_k, balanced_k}

-- a refusal stands at most here
abbrev AtMost : ℕ → Outcome (Unit {0}) → Type 0
AtMost n o = (why : Refusal) → o ≡ refused why → why.place ≤ n

fine-most : (n : ℕ) → AtMost n (fine tt)
fine-most n why e = absurd (refused-fine why tt (sym e))

check-most : (n k q : ℕ) (t : Bool) → q ≤ n → AtMost n (check t k q)
check-most n k q true h why e = fine-most n why e
check-most n k q false h why e = let z : q ≡ why.place = ap place_of e in omega arith

then-most : (n : ℕ) (o r : Outcome (Unit {0})) → AtMost n o → AtMost n r → AtMost n (o >> r)
then-most n (refused why) r h l = h
then-most n (fine u) r h l = l

module _ (n m : ℕ) (k : Kept) (w : Within n m k) where
  total-most : (s : Summary) → AtMost n (total_k s k)
  unfolding total_k
  total-most s = check-most n 11 k.total.at.0 (equals s.sum (as_sum (record { negative = k.total_negative; magnitude = k.total.value.0 }))) w.total

  records-most : (s : Summary) → AtMost n (records_k s k)
  unfolding records_k
  records-most s = check-most n 13 k.records.at.0 (eqb s.records k.records.value.0) w.records

  account-most : (s : Summary) → AtMost n (account_k s k)
  unfolding account_k
  account-most s = then-most n (total_k s k) (records_k s k) (total-most s) (records-most s)

  trailer-most : (s : Summary) (i : ℕ) → AtMost n (trailer_k s i k)
  unfolding trailer_k within_k count_k
  trailer-most s i =
      then-most n (within_k s k) _ (check-most n 14 k.total.at.0 (within_most s.sum) w.total)
      (then-most n (total_k s k) _ (total-most s)
      (then-most n (count_k i k) (records_k s k) (check-most n 12 k.count.at.0 (eqb i k.count.value.0) w.count) (records-most s)))

  pub balanced-most : (c : Code) (a g f : Summary) (why : Refusal) → balanced_k c a g f k ≡ refused why → why.place ≤ n
  unfolding balanced_k
  balanced-most file_header a g f = fine-most n
  balanced-most group_header a g f = fine-most n
  balanced-most account_header a g f = fine-most n
  balanced-most detail a g f = fine-most n
  balanced-most continuation a g f = fine-most n
  balanced-most account_trailer a g f = account-most a
  balanced-most group_trailer a g f = trailer-most g g.accounts
  balanced-most file_trailer a g f = trailer-most f f.groups
