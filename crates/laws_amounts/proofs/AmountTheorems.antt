-- The theorems on amounts as they were given: a field's bytes against its form and magnitude, what the forms add, and which items there are. Assumes nothing.
use Prim.Native.Nat.{ℕ, ◌≤◌, ◌<◌}
use mathlib.Core.Path.{◌≡◌}
use mathlib.Core.Bool.{true, ◌||◌}
use mathlib.Core.List.{List}
use lib.ListN.{length}
use Rattle.rules.specs.Bytes.{Bytes}
use Rattle.rules.specs.Numbers.{◌⊕◌}
use Rattle.rules.specs.Amounts.{Amount, amount_in}
use Rattle.rules.specs.Outcome.{refuse, fine}
use Rattle.rules.specs.Lines.{account_header}
use Rattle.rules.specs.Grammar.{Kind, amount, status_amount, total, same_kind, good, judged}
use Rattle.rules.specs.Totals.{Summary}
use Rattle.rules.specs.Verdict.{judge}
use Rattle.rules.specs.Parts.{Placed, groups_in, account_at, first_fields}
use Rattle.rules.specs.Items.{AccountItem, items_in, item_at}
use Rattle.laws.specs.LawWords.{All, accounts_in, total_of}
use Rattle.laws.proofs.FileTheorems.{file-shape, totals-nest}
use Rattle.laws_amounts.specs.AmountWords.{items_add, details_add, is_amount, written_with, GivenBack}
use Rattle.laws_amounts.proofs.GivenForms.{given_back, read_back, same-given}
use Rattle.laws_amounts.proofs.KindsAsked.{amount-given}
use Rattle.laws_amounts.proofs.AccountForms.{groups-add}
use Rattle.laws_amounts.proofs.ItemNumbers.{none_from, some-from}

-- ---- an amount's bytes

-- a field that the reader takes as an amount, a status amount or a total is one
pub fields-are-amounts : (k : Kind) (bs : Bytes) (new : List Kind) → (same_kind k amount || (same_kind k status_amount || same_kind k total)) ≡ true
    → judged k bs ≡ good new → is_amount bs ≡ true
fields-are-amounts k bs new h e = amount-given k bs new e (rw h tt)

-- the form and the magnitude of an amount give its bytes back, up to leading zeros, however long it is
pub amount-given-back : (bs : Bytes) → is_amount bs ≡ true → GivenBack bs
amount-given-back bs e = given_back bs e

-- a form and a magnitude, written out with any zeros, are read as the same form and magnitude
pub written_read : (zeros : ℕ) (a : Amount) → amount_in (written_with zeros a) ≡ a
written_read zeros a = read_back zeros a

-- amounts of the same form, magnitude and length are the same bytes
pub same_bytes : (bs cs : Bytes) → is_amount bs ≡ true → is_amount cs ≡ true → amount_in bs ≡ amount_in cs → length bs ≡ length cs → bs ≡ cs
same_bytes bs cs b c a l = same-given bs cs (given_back bs b) (given_back cs c) a l

-- ---- what amounts add

-- in an accepted file each account's total, which its 49 states, is what the amounts of its items and of its details add, as they were given
pub forms-add-up : (file : Bytes) (s : Summary) → judge file ≡ fine s
    → All (λ g. All (λ a. total_of a ≡ items_add a ⊕ details_add a) (accounts_in g)) (groups_in file)
forms-add-up file s h = groups-add (groups_in file) (file-shape file s h).groups (totals-nest file s h).of-accounts

-- ---- items by their number

-- refusal 17, for an item exactly from its account's number of items on
pub no-such-item : (file : Bytes) (g a n : ℕ) (x : Placed) → account_at file g a ≡ fine x → length (items_in (first_fields account_header x.records)) ≤ n → item_at file g a n ≡ refuse 17 0
unfolding item_at
no-such-item file g a n x h few = rw (h, none_from (items_in (first_fields account_header x.records)) n few)

pub such-item : (file : Bytes) (g a n : ℕ) (x : Placed) → account_at file g a ≡ fine x → n < length (items_in (first_fields account_header x.records))
    → (i : AccountItem) × (item_at file g a n ≡ fine i)
unfolding item_at
such-item file g a n x h many =
    let (i, e) = some-from (items_in (first_fields account_header x.records)) n many in
    (i, rw (h, e))
