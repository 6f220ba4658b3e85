-- Summaries add up in any grouping, what a record of a code adds, and lines within a limit, together and apart. Assumes nothing.
use Prim.Native.Nat.{ℕ, ◌+◌}
use mathlib.Core.Path.{◌≡◌, refl, sym, ap}
use mathlib.Core.List.{List, [], ◌∷◌, ◌++◌}
use native.Mathlib.Nat.{add-zero, zero-add, add_assoc}
use lib.Dec.{T, leb}
use lib.ListN.{length, length-append}
use Rattle.rules.specs.Lines.{Line, Code, Record}
use Rattle.rules.specs.Numbers.{Sum}
use Rattle.rules.specs.Totals.{Summary, no_summary, ◌⊞◌, adding, of_record}
use Rattle.rules.specs.Parts.{heads, fields_in}
use Rattle.rules.specs.Combine.{of_coded, summary_of, summary_of_all, lines_within, concat}
use Rattle.rules.proofs.Tests.{and_left, and_right, both}
use Rattle.laws.specs.LawWords.{All, Of}
use Rattle.laws.proofs.Codes.{code-of}

-- ---- adding up

pub same_sum : (a b : Sum) → a.pluses ≡ b.pluses → a.minuses ≡ b.minuses → a ≡ b
same_sum a b p m = λ i. record { pluses = p i; minuses = m i }

pub same-summary : (a b : Summary) → a.sum.pluses ≡ b.sum.pluses → a.sum.minuses ≡ b.sum.minuses → a.groups ≡ b.groups
    → a.accounts ≡ b.accounts → a.details ≡ b.details → a.records ≡ b.records → a ≡ b
same-summary a b p m g c d l = λ i. record { sum = record { pluses = p i; minuses = m i }; groups = g i; accounts = c i; details = d i; records = l i }

pub add_none : (a : Summary) → a ⊞ no_summary ≡ a
unfolding ◌⊞◌
add_none a = simp add-zero

pub none-add : (a : Summary) → no_summary ⊞ a ≡ a
unfolding ◌⊞◌
none-add a = simp zero-add

pub add-regroup : (a b c : Summary) → (a ⊞ b) ⊞ c ≡ a ⊞ (b ⊞ c)
unfolding ◌⊞◌
add-regroup a b c = simp add_assoc

pub summary-append : (rs qs : List Record) → summary_of_all (rs ++ qs) ≡ summary_of_all rs ⊞ summary_of_all qs
unfolding summary_of_all
summary-append [] qs = sym (none-add (summary_of_all qs))
summary-append (r ∷ rs) qs = rw (summary-append rs qs) (sym (add-regroup (summary_of r) (summary_of_all rs) (summary_of_all qs)))

-- an envelope's: its first record, its parts, its last record
pub summary-envelope : (h : Record) (rs : List Record) (t : Record) → summary_of_all (h ∷ (rs ++ (t ∷ []))) ≡ ((summary_of h ⊞ summary_of_all rs) ⊞ summary_of t)
unfolding summary_of_all
summary-envelope h rs t = rw (summary-append rs (t ∷ []), add_none (summary_of t)) (sym (add-regroup (summary_of h) (summary_of_all rs) (summary_of t)))

-- ---- a record of a code

pub summary-as : (c : Code) (r : Record) → T (heads c r) → summary_of r ≡ of_record c r (fields_in c r)
unfolding summary_of of_coded
summary-as c [] h = absurd h
summary-as c (l ∷ ls) h = rw (code-of c l h)

-- records are lines
pub lines-counted : (cs : List Code) (rs : List Record) → All (Of cs) rs → (summary_of_all rs).records ≡ length (concat rs)
unfolding summary_of_all concat ◌⊞◌ of_record adding
lines-counted cs [] a = refl
lines-counted cs (r ∷ rs) a =
    let o = a.0 in
    rw (lines-counted cs rs a.1, length-append r (concat rs))
    (ap (λ (s : Summary). s.records + length (concat rs)) (summary-as o.code r o.is_code))

-- ---- lines within a limit

module _ (limit : ℕ) where
  pub within-left : (ls ms : List Line) → T (lines_within limit (ls ++ ms)) → T (lines_within limit ls)
  unfolding lines_within
  within-left [] ms h = tt
  within-left (l ∷ ls) ms h =
      both (leb (length l.body) limit) (lines_within limit ls) (and_left (leb (length l.body) limit) (lines_within limit (ls ++ ms)) h)
      (within-left ls ms (and_right (leb (length l.body) limit) (lines_within limit (ls ++ ms)) h))

  pub within-right : (ls ms : List Line) → T (lines_within limit (ls ++ ms)) → T (lines_within limit ms)
  unfolding lines_within
  within-right [] ms h = h
  within-right (l ∷ ls) ms h = within-right ls ms (and_right (leb (length l.body) limit) (lines_within limit (ls ++ ms)) h)

  pub within_both : (ls ms : List Line) → T (lines_within limit ls) → T (lines_within limit ms) → T (lines_within limit (ls ++ ms))
  unfolding lines_within
  within_both [] ms h k = k
  within_both (l ∷ ls) ms h k =
      both (leb (length l.body) limit) (lines_within limit (ls ++ ms)) (and_left (leb (length l.body) limit) (lines_within limit ls) h)
      (within_both ls ms (and_right (leb (length l.body) limit) (lines_within limit ls) h) k)
