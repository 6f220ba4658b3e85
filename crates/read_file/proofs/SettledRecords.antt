-- After the fields, what is kept of them settles a record as the rules do. Assumes nothing.
use Prim.Native.Nat.{ℕ}
use mathlib.Core.Path.{◌≡◌, refl, ap}
use mathlib.Core.Bool.{Bool, true, false, cond, not}
use mathlib.Core.List.{List}
use lib.Dec.{eqb}
use lib.ListN.{length}
use Rattle.rules.specs.Bytes.{is_empty}
use Rattle.rules.specs.Outcome.{Outcome, refused, fine, ◌>>=◌, ◌>>◌, check}
use Rattle.rules.specs.Numbers.{equals, magnitudes, number}
use Rattle.rules.specs.Lines.{Code, file_header, group_header, account_header, detail, account_trailer, group_trailer, file_trailer, continuation, same_code, Record}
use Rattle.rules.specs.Grammar.{total, count, records, physical_length}
use Rattle.rules.specs.Records.{Field, the}
use Rattle.rules.specs.Totals.{Summary, ◌⊞◌, of_record, balanced, right_total, right_count, right_records, sum_within}
use Rattle.rules.specs.Verdict.{State, limit_given, limit_after, own_lines, state_after, settled}
use Rattle.std.specs.Prelude.{Option, Some, None, unwrap_or}
use Rattle.base_quantities.specs.declared.Place.{Place}
use Rattle.read_kept.specs.declared.Kept.{Kept}
use Rattle.read_kept.specs.KeptOfFields.{KeptOf, over_of}
use Rattle.read_trailers.specs.TrailerChecks.{within_k, total_k, count_k, records_k, account_k, trailer_k, balanced_k}
use Rattle.read_file.specs.RecordSteps.{limit_k, this_k, next_k, settled_k}

-- what is kept of these fields, after records with magnitudes m
module _ (m : ℕ) (fs : List Field) (k : Kept) (is : KeptOf m fs k) where
  -- ---- L
  given-right : (limit : ℕ) → unwrap_or k.length limit ≡ limit_given limit fs
  unfolding limit_given
  given-right limit = rw is.length (by-empty (is_empty (the physical_length fs).bytes))
    where
      by-empty : (t : Bool) → unwrap_or (cond (not t) (Some (number (the physical_length fs).bytes)) None) limit ≡ cond t limit (number (the physical_length fs).bytes)
      by-empty true = refl
      by-empty false = refl

  limit-right : (c : Code) (limit : ℕ) → limit_k c limit k ≡ limit_after c limit fs
  unfolding limit_k limit_after
  limit-right c limit = ap (λ (n : ℕ). cond (same_code c file_header) n limit) (given-right limit)

  -- ---- 14, 11, 12, 13
  within-right : (s : Summary) → within_k s k ≡ sum_within s fs
  unfolding within_k sum_within
  within-right s = rw (ap (λ x. x.0) is.total)

  total_right : (s : Summary) → total_k s k ≡ right_total s fs
  unfolding total_k right_total
  total_right s = ap (λ x. check (equals s.sum x.1) 11 x.0) is.total

  count-right : (n : ℕ) → count_k n k ≡ right_count n fs
  unfolding count_k right_count
  count-right n = ap (λ x. check (eqb n x.1) 12 x.0) is.count

  records-right : (s : Summary) → records_k s k ≡ right_records s fs
  unfolding records_k right_records
  records-right s = ap (λ x. check (eqb s.records x.1) 13 x.0) is.records

  trailer-right : (s : Summary) (n : ℕ) → trailer_k s n k ≡ (sum_within s fs >> (right_total s fs >> (right_count n fs >> right_records s fs)))
  unfolding trailer_k
  trailer-right s n = rw (within-right s, total_right s, count-right n, records-right s)

  balanced-right : (c : Code) (a g f : Summary) → balanced_k c a g f k ≡ balanced c a g f fs
  unfolding balanced_k balanced account_k
  balanced-right file_header a g f = refl
  balanced-right group_header a g f = refl
  balanced-right account_header a g f = refl
  balanced-right detail a g f = refl
  balanced-right continuation a g f = refl
  balanced-right account_trailer a g f = rw (total_right a, records-right a)
  balanced-right group_trailer a g f = trailer-right g g.accounts
  balanced-right file_trailer a g f = trailer-right f f.groups

  -- ---- all together
  module _ (s : State) (r : Record) (c : Code) where
    this-right : k.past ≡ None → this_k c (length r) k ≡ of_record c r fs
    unfolding this_k of_record
    this-right o = rw (is.sum o)

    next-right : k.past ≡ None → next_k s c (length r) k ≡ state_after s r (record { code = c; fields = fs })
    unfolding next_k state_after
    next-right o = rw (this-right o, limit-right c s.limit)

    by_over : (o : Outcome (Unit {0})) (q : Option Place) → k.past ≡ q
        → (o >>= λ _. over_of k >>= λ _. balanced_k c (s.account ⊞ this_k c (length r) k) (s.group ⊞ this_k c (length r) k) (s.file ⊞ this_k c (length r) k) k >>= λ _. fine (next_k s c (length r) k))
        ≡ (o >>= λ _. over_of k >>= λ _. balanced c (s.account ⊞ of_record c r fs) (s.group ⊞ of_record c r fs) (s.file ⊞ of_record c r fs) fs >>= λ _. fine (state_after s r (record { code = c; fields = fs })))
    by_over (refused why) q e = refl
    by_over (fine u) (Some p) e = rw e
    by_over (fine u) None e =
        rw (this-right e, balanced-right c (s.account ⊞ of_record c r fs) (s.group ⊞ of_record c r fs) (s.file ⊞ of_record c r fs), next-right e)

    pub settled-right : m ≡ magnitudes s.file.sum → settled_k s r c k ≡ settled s r (record { code = c; fields = fs })
    unfolding settled_k settled
    settled-right e =
        rw (limit-right c s.limit, ← e, is.bound) (by_over (own_lines c (limit_after c s.limit fs) r) k.past refl)
