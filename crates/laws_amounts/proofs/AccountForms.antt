-- An account's total is what the forms of its items and its details add. Assumes nothing.
use mathlib.Core.Path.{◌≡◌, refl, sym, ap, ◌∙◌}
use mathlib.Core.List.{List, [], ◌∷◌}
use lib.Dec.{T}
use Rattle.rules.specs.Numbers.{Sum, ◌⊕◌}
use Rattle.rules.specs.Amounts.{amount_adds}
use Rattle.rules.specs.Lines.{Code, account_header, detail, Record}
use Rattle.rules.specs.Grammar.{amount}
use Rattle.rules.specs.Totals.{Summary, sum_of, adding, of_record}
use Rattle.rules.specs.Parts.{heads, Parts, in_details, fields_in, first_fields, detail_in}
use Rattle.rules.specs.Combine.{summary_of, summary_of_all}
use Rattle.laws.specs.LawWords.{All, sum_up, accounts_in, details_in, IsDetail, IsAccount, IsGroup, total_of}
use Rattle.laws.proofs.Envelopes.{account-cut}
use Rattle.laws.proofs.SummarySums.{add_none, summary-as}
use Rattle.laws_amounts.specs.AmountWords.{items_add, details_add}
use Rattle.laws_amounts.proofs.ItemForms.{items_of, items-add}
use Rattle.laws_amounts.proofs.DetailForms.{amount-adds-up}

-- one record's total is what its fields add
record-total : (c : Code) (r : Record) → T (heads c r) → total_of (r ∷ []) ≡ sum_of (fields_in c r)
unfolding summary_of_all of_record adding
record-total c r h = ap (λ (s : Summary). s.sum) (add_none (summary_of r) ∙ summary-as c r h)

-- ---- the 03

header-total : (a : List Record) (i : IsAccount a) → total_of (in_details a).waiting ≡ items_of (fields_in account_header i.enclosed.header)
header-total a i =
    let h = i.enclosed.header in
    ap (λ (p : Parts). total_of p.waiting) (account-cut a i) ∙ record-total account_header h i.enclosed.is-header ∙ items-add h

first-items : (h : Record) (rs : List Record) → items_of (fields_in account_header h) ≡ items_add (h ∷ rs)
unfolding items_add first_fields
first-items h rs = refl

items-total : (a : List Record) → IsAccount a → total_of (in_details a).waiting ≡ items_add a
items-total a i = header-total a i ∙ first-items i.enclosed.header _ ∙ ap items_add (sym i.enclosed.whole)

-- ---- the 16s

-- what a detail's amount adds
abbrev detail_adds : List Record → Sum
detail_adds d = amount_adds (detail_in (record { place = 0; records = d })).amount

detail-total : (d : List Record) → IsDetail d → total_of d ≡ detail_adds d
unfolding detail_in first_fields
detail-total [] h = absurd h
detail-total (r ∷ []) h = record-total detail r h ∙ amount-adds-up r
detail-total (r ∷ q ∷ rs) h = absurd h

all-details : (ds : List (List Record)) → All IsDetail ds → sum_up total_of ds ≡ sum_up detail_adds ds
unfolding sum_up
all-details [] h = refl
all-details (d ∷ ds) h = rw (detail-total d h.0, all-details ds h.1)

details-total : (a : List Record) → IsAccount a → sum_up total_of (details_in a) ≡ details_add a
unfolding details_add
details-total a i = all-details (details_in a) i.details

-- ---- each account of each group

-- the 03's amounts and the details'
abbrev InParts : List Record → Type 0
InParts a = total_of a ≡ total_of (in_details a).waiting ⊕ sum_up total_of (details_in a)

-- its items' amounts and its details'
abbrev InForms : List Record → Type 0
InForms a = total_of a ≡ items_add a ⊕ details_add a

account-adds : (a : List Record) → IsAccount a → InParts a → InForms a
account-adds a i e = e ∙ rw (items-total a i, details-total a i)

-- what follows from two properties of each element
all_two : {A : Type 0} (P Q R : A → Type 0) → ((x : A) → P x → Q x → R x) → (xs : List A) → All P xs → All Q xs → All R xs
all_two P Q R f [] p q = tt
all_two P Q R f (x ∷ xs) p q = (f x p.0 q.0, all_two P Q R f xs p.1 q.1)

pub groups-add : (gs : List (List Record)) → All IsGroup gs → All (λ g. All InParts (accounts_in g)) gs → All (λ g. All InForms (accounts_in g)) gs
groups-add =
    all_two IsGroup (λ g. All InParts (accounts_in g)) (λ g. All InForms (accounts_in g)) (λ g i.
    all_two IsAccount InParts InForms account-adds (accounts_in g) i.accounts)
