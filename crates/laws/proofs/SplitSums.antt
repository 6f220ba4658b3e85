-- Totals nest: the file's is the sum of its groups', a group's of its accounts', an account's of its 03 and its details. Assumes nothing.
use mathlib.Core.Path.{◌≡◌, refl, ap, ◌∙◌}
use mathlib.Core.List.{List, [], ◌∷◌}
use native.Mathlib.Omega.{arith}
use lib.Dec.{T}
use Rattle.rules.specs.Bytes.{Bytes, same_bytes}
use Rattle.rules.specs.Lines.{Code, file_header, group_header, account_header, account_trailer, group_trailer, file_trailer, Record, file_records}
use Rattle.rules.specs.Numbers.{Sum, zero_sum, ◌⊕◌}
use Rattle.rules.specs.Totals.{Summary, ◌⊞◌, adding, of_record}
use Rattle.rules.specs.Order.{among}
use Rattle.rules.specs.Parts.{heads, Parts, in_details, groups_in}
use Rattle.rules.specs.Combine.{summary_of, summary_of_all, concat}
use Rattle.laws.specs.LawWords.{All, sum_up, accounts_in, details_in, Enclosed, IsAccount, IsGroup, IsFile, total_of, TotalsNest}
use Rattle.laws.proofs.Lists.{all_from}
use Rattle.laws.proofs.Envelopes.{account-cut}
use Rattle.laws.proofs.SummarySums.{same_sum, add_none, summary-append, summary-as, summary-envelope}
use Rattle.laws.proofs.WalkedFields.{amountless, no-amounts}

-- a record that is no 03 or 16 adds nothing
zero-record : (c : Code) (r : Record) → T (among c amountless) → T (heads c r) → (summary_of r).sum ≡ zero_sum
unfolding of_record adding
zero-record c r m h = ap (λ (s : Summary). s.sum) (summary-as c r h) ∙ no-amounts c r m

sum-of-parts : (ps : List (List Record)) → total_of (concat ps) ≡ sum_up total_of ps
unfolding concat sum_up summary_of_all ◌⊞◌
sum-of-parts [] = refl
sum-of-parts (p ∷ ps) = ap (λ (s : Summary). s.sum) (summary-append p (concat ps)) ∙ rw (sum-of-parts ps)

three-sums : (h g t : Summary) → ((h ⊞ g) ⊞ t).sum ≡ (h.sum ⊕ g.sum) ⊕ t.sum
unfolding ◌⊞◌
three-sums h g t = refl

no_end : (a t : Sum) → t ≡ zero_sum → a ⊕ t ≡ a
no_end a t e = rw e (same_sum (a ⊕ zero_sum) a (omega arith) (omega arith))

no_start : (h a : Sum) → h ≡ zero_sum → h ⊕ a ≡ a
no_start h a e = rw e (same_sum (zero_sum ⊕ a) a (omega arith) (omega arith))

-- an envelope whose last record adds nothing, and one whose first doesn't either
module _ (c d : Code) (ps : List (List Record)) (rs : List Record) (e : Enclosed c d ps rs) (m : T (among d amountless)) where
  first-and-parts : total_of rs ≡ (summary_of e.header).sum ⊕ sum_up total_of ps
  first-and-parts =
      ap total_of e.whole
      ∙ ap (λ (s : Summary). s.sum) (summary-envelope e.header (concat ps) e.trailer)
      ∙ three-sums (summary_of e.header) (summary_of_all (concat ps)) (summary_of e.trailer)
      ∙ no_end ((summary_of e.header).sum ⊕ total_of (concat ps)) (summary_of e.trailer).sum (zero-record d e.trailer m e.is-trailer)
      ∙ rw (sum-of-parts ps)

  only_parts : T (among c amountless) → total_of rs ≡ sum_up total_of ps
  only_parts n = first-and-parts ∙ no_start (summary_of e.header).sum (sum_up total_of ps) (zero-record c e.header n e.is-header)

account-total : (a : List Record) → IsAccount a → total_of a ≡ total_of (in_details a).waiting ⊕ sum_up total_of (details_in a)
unfolding among same_bytes summary_of_all
account-total a i =
    let e = i.enclosed in
    let first : total_of (in_details a).waiting ≡ (summary_of e.header).sum =
    ap (λ (p : Parts). total_of p.waiting) (account-cut a i) ∙ ap (λ (s : Summary). s.sum) (add_none (summary_of e.header)) in
    first-and-parts account_header account_trailer (details_in a) a e tt ∙ rw first

group-total : (g : List Record) → IsGroup g → total_of g ≡ sum_up total_of (accounts_in g)
unfolding among same_bytes
group-total g i = only_parts group_header group_trailer (accounts_in g) g i.enclosed tt tt

pub totals-of : (file : Bytes) → IsFile file → TotalsNest file
unfolding among same_bytes
totals-of file i =
    record {
      of-file = only_parts file_header file_trailer (groups_in file) (file_records file) i.enclosed tt tt;
      of-groups = all_from (λ g. total_of g ≡ sum_up total_of (accounts_in g)) IsGroup group-total (groups_in file) i.groups;
      of-accounts =
          all_from (λ g. All (λ a. total_of a ≡ total_of (in_details a).waiting ⊕ sum_up total_of (details_in a)) (accounts_in g)) IsGroup
          (λ g j. all_from (λ a. total_of a ≡ total_of (in_details a).waiting ⊕ sum_up total_of (details_in a)) IsAccount account-total (accounts_in g) j.accounts) (groups_in file) i.groups;
    }
