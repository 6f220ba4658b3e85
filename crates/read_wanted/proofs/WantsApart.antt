-- A want is fixed by the kinds that it stands for, an answer by what it says of a field, and a `Keep` by its purpose: no two have the same meaning. Assumes nothing.
use Prim.Native.Nat.{ℕ, zero, suc}
use mathlib.Core.Path.{◌≡◌, refl, sym, ap, ◌∙◌}
use mathlib.Core.Bool.{cond}
use mathlib.Core.List.{List, [], ◌∷◌, ◌++◌}
use lib.Dec.{eqb}
use lib.ListN.{length}
use Rattle.rules.specs.Grammar as kind
use Rattle.rules.specs.Grammar.{Kind, same_kind, next_kind, pairs, fields_of, Judged}
use Rattle.base_refusals.specs.declared.Reason.{Reason}
use Rattle.base_refusals.proofs.RefusalsBack.{reason_from, same_reason}
use Rattle.read_wanted.specs.Wants.{wanted_of, wanted_after, references, splits, Purpose, for_amount, for_total, for_count, for_records, for_length, for_nothing, keep_meant}
use Rattle.read_wanted.specs.TakenMeaning.{judged_of}
use Rattle.std.specs.Prelude.{Result, Ok, Err}
use Rattle.read_wanted.specs.declared.want.After.{After}
use Rattle.read_wanted.specs.declared.want.After.TheVariants.{FurtherItem, References}
use Rattle.read_wanted.specs.declared.want.Keep.{Keep}
use Rattle.read_wanted.specs.declared.want.Keep.TheVariants as keeps
use Rattle.read_wanted.specs.declared.want.Want.{Want}
use Rattle.read_wanted.specs.declared.want.Want.TheVariants as want

-- ---- what a list of kinds tells

-- how many of this kind are in it
unfoldable many : Kind → List Kind → ℕ
many k [] = 0
many k (j ∷ js) = cond (same_kind k j) (suc (many k js)) (many k js)

-- where its funds stand: a detail's references come after them, or not
abbrev after_in : List Kind → After
after_in ks = cond (eqb (many kind.reference ks) 0) FurtherItem References

-- the want whose kinds are k and these; any want for other kinds
abbrev want_at : Kind → List Kind → Want
want_at kind.name ks =
    cond (eqb (length ks) 7) want.Sender
    (cond (eqb (length ks) 6) want.Receiver
    (cond (eqb (length ks) 5) want.Originator want.Account))
want_at kind.reference ks = cond (eqb (length ks) 2) want.BankReference want.CustomerReference
want_at kind.ultimate_receiver ks = want.UltimateReceiver
want_at kind.date ks =
    cond (eqb (length ks) 5) want.FileDate
    (cond (eqb (length ks) 3) want.GroupDate (want.ValueDate (after_in ks)))
want_at kind.time ks = want.FileTime
want_at kind.time_or_none ks = cond (eqb (length ks) 2) want.GroupTime (want.ValueTime (after_in ks))
want_at kind.file_number ks = want.FileNumber
want_at kind.physical_length ks = want.Length
want_at kind.block_size ks = want.BlockSize
want_at kind.version ks = want.Version
want_at kind.group_status ks = want.GroupStatus
want_at kind.currency ks = cond (same_kind (next_kind ks) kind.modifier) want.GroupCurrency want.AccountCurrency
want_at kind.modifier ks = want.Modifier
want_at kind.first_type ks = want.FirstType
want_at kind.further_type ks = want.FurtherType
want_at kind.status_amount ks = want.StatusAmount
want_at kind.amount ks = cond (eqb (length ks) 3) want.ItemAmount want.DetailAmount
want_at kind.item_count ks = want.ItemCount
want_at kind.funds ks = cond (eqb (length ks) 1) want.ItemFunds want.DetailFunds
want_at kind.detail_type ks = want.DetailType
want_at kind.text ks = want.Text
want_at kind.further_text ks = want.FurtherText
want_at kind.split_amount ks = want.SplitAmount (after_in ks) (many kind.split_amount ks)
want_at kind.pair_count ks = want.PairCount (after_in ks)
want_at kind.days ks = want.Days (after_in ks) (many kind.days ks)
want_at kind.day_amount ks = want.DayAmount (after_in ks) (many kind.days ks)
want_at kind.total ks = cond (eqb (length ks) 1) want.AccountTotal want.Total
want_at kind.count ks = want.Count
want_at kind.records ks = want.Records
want_at kind.nothing ks =
    cond (eqb (length ks) 0) want.EmptyFunds
    (cond (eqb (length ks) 3) want.NoFunds
    (cond (eqb (length ks) 4) want.NoAmount
    (cond (eqb (length ks) 1) (cond (eqb (many kind.further_type ks) 0) want.EmptyCount want.StatusFunds)
    (cond (eqb (many kind.further_type ks) 0) want.EmptyAmount want.StatusCount))))

-- the want of a list of kinds
abbrev want_of : List Kind → Want
want_of [] = want.End
want_of (k ∷ ks) = want_at k ks

-- ---- after the amounts of S and the pairs of D

after-back : (a : After) → after_in (wanted_after a) ≡ a
unfolding wanted_after references fields_of many
after-back FurtherItem = refl
after-back References = refl

splits-counted : (a : After) (n : ℕ) → many kind.split_amount (splits n ++ wanted_after a) ≡ n
unfolding splits wanted_after references fields_of many
splits-counted FurtherItem zero = refl
splits-counted References zero = refl
splits-counted a (suc n) = ap suc (splits-counted a n)

splits-passed : (n : ℕ) (ks : List Kind) → many kind.reference (splits n ++ ks) ≡ many kind.reference ks
unfolding splits many
splits-passed zero ks = refl
splits-passed (suc n) ks = splits-passed n ks

pairs-counted : (a : After) (n : ℕ) → many kind.days (pairs n ++ wanted_after a) ≡ n
unfolding pairs wanted_after references fields_of many
pairs-counted FurtherItem zero = refl
pairs-counted References zero = refl
pairs-counted a (suc n) = ap suc (pairs-counted a n)

pairs-passed : (n : ℕ) (ks : List Kind) → many kind.reference (pairs n ++ ks) ≡ many kind.reference ks
unfolding pairs many
pairs-passed zero ks = refl
pairs-passed (suc n) ks = pairs-passed n ks

-- ---- every want

want-back : (w : Want) → want_of (wanted_of w) ≡ w
unfolding wanted_of wanted_after references fields_of many
want-back want.Sender = refl
want-back want.Receiver = refl
want-back want.FileDate = refl
want-back want.FileTime = refl
want-back want.FileNumber = refl
want-back want.Length = refl
want-back want.BlockSize = refl
want-back want.Version = refl
want-back want.UltimateReceiver = refl
want-back want.Originator = refl
want-back want.GroupStatus = refl
want-back want.GroupDate = refl
want-back want.GroupTime = refl
want-back want.GroupCurrency = refl
want-back want.Modifier = refl
want-back want.Account = refl
want-back want.AccountCurrency = refl
want-back want.FirstType = refl
want-back want.EmptyAmount = refl
want-back want.EmptyCount = refl
want-back want.EmptyFunds = refl
want-back want.StatusAmount = refl
want-back want.StatusCount = refl
want-back want.StatusFunds = refl
want-back want.ItemAmount = refl
want-back want.ItemCount = refl
want-back want.ItemFunds = refl
want-back want.FurtherType = refl
want-back want.DetailType = refl
want-back want.DetailAmount = refl
want-back want.DetailFunds = refl
want-back want.NoAmount = refl
want-back want.NoFunds = refl
want-back want.BankReference = refl
want-back want.CustomerReference = refl
want-back want.Text = refl
want-back want.FurtherText = refl
want-back (want.SplitAmount a n) = rw (splits-passed n (wanted_after a), after-back a, splits-counted a n)
want-back (want.ValueDate FurtherItem) = refl
want-back (want.ValueDate References) = refl
want-back (want.ValueTime FurtherItem) = refl
want-back (want.ValueTime References) = refl
want-back (want.PairCount a) = rw (after-back a)
want-back (want.Days a n) = rw (pairs-passed n (wanted_after a), after-back a, pairs-counted a n)
want-back (want.DayAmount a n) = rw (pairs-passed n (wanted_after a), after-back a, pairs-counted a n)
want-back want.AccountTotal = refl
want-back want.Total = refl
want-back want.Count = refl
want-back want.Records = refl
want-back want.End = refl

-- Two wants that stand for the same kinds are the same want.
pub want-fixed : (v w : Want) → wanted_of v ≡ wanted_of w → v ≡ w
want-fixed v w e = sym (want-back v) ∙ ap want_of e ∙ want-back w

-- ---- every answer

abbrev taken_of : Judged → Result Want Reason
taken_of (kind.bad n) = Err (reason_from n)
taken_of (kind.good ks) = Ok (want_of ks)

taken_back : (t : Result Want Reason) → taken_of (judged_of t) ≡ t
unfolding judged_of
taken_back (Ok w) = ap Ok (want-back w)
taken_back (Err r) = ap Err (same_reason r)

-- Two answers that say the same of a field are the same answer.
pub taken-fixed : (s t : Result Want Reason) → judged_of s ≡ judged_of t → s ≡ t
taken-fixed s t e = sym (taken_back s) ∙ ap taken_of e ∙ taken_back t

-- ---- every `Keep`

abbrev keep_of : Purpose → Keep
keep_of for_amount = keeps.Amount
keep_of for_total = keeps.Total
keep_of for_count = keeps.Count
keep_of for_records = keeps.Records
keep_of for_length = keeps.Length
keep_of for_nothing = keeps.Nothing

keep-back : (k : Keep) → keep_of (keep_meant k) ≡ k
keep-back keeps.Amount = refl
keep-back keeps.Total = refl
keep-back keeps.Count = refl
keep-back keeps.Records = refl
keep-back keeps.Length = refl
keep-back keeps.Nothing = refl

-- Two that stand for the same purpose are the same.
pub keep-fixed : (j k : Keep) → keep_meant j ≡ keep_meant k → j ≡ k
keep-fixed j k e = sym (keep-back j) ∙ ap keep_of e ∙ keep-back k
