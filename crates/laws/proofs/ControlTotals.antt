-- Every 49, 98 and 99 states what it encloses. Assumes nothing.
use Prim.Native.Nat.{ℕ}
use mathlib.Core.Path.{◌≡◌, refl, sym, ap, subst, ◌∙◌}
use mathlib.Core.List.{List, [], ◌∷◌}
use mathlib.Core.Option.{Option, none, some}
use lib.Dec.{eqb, eqb→eq}
use lib.ListN.{length}
use Rattle.rules.specs.Bytes.{Bytes, same_bytes}
use Rattle.rules.specs.Outcome.{Outcome, fine, ◌>>◌}
use Rattle.rules.specs.Lines.{Code, file_header, group_header, account_header, detail, account_trailer, group_trailer, file_trailer, Record, file_records}
use Rattle.rules.specs.Numbers.{number, equals}
use Rattle.rules.specs.Amounts.{amount_in, amount_adds}
use Rattle.rules.specs.Grammar.{total, count, records}
use Rattle.rules.specs.Records.{Field, the}
use Rattle.rules.specs.Totals.{Summary, no_summary, ◌⊞◌, sum_within, right_total, right_count, right_records, balanced}
use Rattle.rules.specs.Order.{among}
use Rattle.rules.specs.Verdict.{State, start, run, judge}
use Rattle.rules.specs.Parts.{groups_in, fields_in}
use Rattle.rules.specs.Combine.{summary_of, summary_of_all, concat}
use Rattle.rules.proofs.Binds.{then-fine, first_fine, check-holds}
use Rattle.rules.proofs.Accepted.{accepted}
use Rattle.laws.specs.LawWords.{All, accounts_in, details_in, Enclosed, IsAccount, IsGroup, IsFile, States, Controlled, GroupControlled, FileControlled, Of}
use Rattle.laws.proofs.Codes.{of-own}
use Rattle.laws.proofs.PartCuts.{parts-of, account_codes, group_codes, file_codes}
use Rattle.laws.proofs.Envelopes.{account-codes, group-codes, details-begin, accounts-begin, groups-begin}
use Rattle.laws.proofs.Shape.{is-file, file-codes}
use Rattle.laws.proofs.SummarySums.{add_none, none-add, summary-append, lines-counted}
use Rattle.laws.proofs.Counts.{group-accounts, file-groups}
use Rattle.laws.proofs.RecordsTaken.{state_with}
use Rattle.laws.proofs.RunsOfRecords.{run-two, Through, through, run-sum}

-- ---- a trailer against the summary of all records that it encloses, itself included

-- what `balanced` checks, where it is held against this summary
record Right (parts : Option ℕ) (sum : Summary) (fs : List Field) : Type 0 where
  right-total : right_total sum fs ≡ fine tt
  right-parts : States parts fs
  right-records : right_records sum fs ≡ fine tt

abbrev checks_of_account : Summary → List Field → Outcome (Unit {0})
checks_of_account s fs = right_total s fs >> right_records s fs

abbrev checks_with_count : ℕ → Summary → List Field → Outcome (Unit {0})
checks_with_count n s fs = sum_within s fs >> (right_total s fs >> (right_count n fs >> right_records s fs))

right-account : (s : Summary) (fs : List Field) → checks_of_account s fs ≡ fine tt → Right none s fs
right-account s fs h = record { right-total = first_fine (right_total s fs) _ tt h; right-parts = tt; right-records = then-fine (right_total s fs) _ tt h }

right-counted : (s : Summary) (n parts : ℕ) (fs : List Field) → n ≡ parts → checks_with_count n s fs ≡ fine tt → Right (some parts) s fs
unfolding right_count
right-counted s n parts fs e h =
    let h₁ = then-fine (sum_within s fs) _ tt h in
    let h₂ = then-fine (right_total s fs) _ tt h₁ in
    let stated = number (the count fs).bytes in
    record {
      right-total = first_fine (right_total s fs) _ tt h₁;
      right-parts = sym (eqb→eq n stated (check-holds (eqb n stated) 12 (the count fs).place (first_fine (right_count n fs) _ tt h₂))) ∙ e;
      right-records = then-fine (right_count n fs) _ tt h₂;
    }

-- an envelope that runs from a state where none is open; `get` is the summary of what it encloses, to which records of codes before its trailer add
module _ {c d : Code} {ps : List (List Record)} {rs : List Record} (e : Enclosed c d ps rs) (codes : List Code) (coded : All (Of codes) rs)
    (get : State → Summary) (before : List Code) (law : (s : State) (r : Record) → All (λ b. get (state_with b s r) ≡ get s ⊞ summary_of r) before)
    (adds : All (Of before) (e.header ∷ concat ps)) (s u : State) (starts : get s ≡ no_summary) (x : Through e s u) where
  -- with the trailer it is the summary of all
  all-added : get x.last ⊞ summary_of e.trailer ≡ summary_of_all rs
  unfolding summary_of_all
  all-added =
      let qs = e.header ∷ concat ps in
      let sums : get x.last ≡ summary_of_all qs = run-sum get before law qs s x.last adds x.before ∙ rw (starts, none-add (summary_of_all qs)) in
      rw sums (sym (ap summary_of_all e.whole ∙ summary-append qs (e.trailer ∷ []) ∙ rw (add_none (summary_of e.trailer))))

  -- so the trailer states what it should, where `balanced` says that this summary is right
  control : (parts : Option ℕ)
      → (get x.last ⊞ summary_of e.trailer ≡ summary_of_all rs → Right parts (summary_of_all rs) (fields_in d e.trailer))
      → Controlled d parts rs
  unfolding right_total right_records
  control parts says =
      let fs = fields_in d e.trailer in
      let sum = summary_of_all rs in
      let stated = number (the records fs).bytes in
      let right = says all-added in
      record {
        before = e.header ∷ concat ps;
        trailer = e.trailer;
        fields = fs;
        whole = e.whole;
        is-trailer = e.is-trailer;
        walked = x.closes.walked;
        states-total = check-holds (equals sum.sum (amount_adds (amount_in (the total fs).bytes))) 11 (the total fs).place right.right-total;
        states-parts = right.right-parts;
        states-lines =
            sym (eqb→eq sum.records stated (check-holds (eqb sum.records stated) 13 (the records fs).place right.right-records))
            ∙ lines-counted codes rs coded;
      }

-- ---- accounts

module _ (a : List Record) (i : IsAccount a) (s u : State) (starts : s.account ≡ no_summary) (x : Through i.enclosed s u) where
  account-controlled : Controlled account_trailer none a
  unfolding among same_bytes balanced
  account-controlled =
      let e = i.enclosed in
      let before = account_header ∷ detail ∷ [] in
      let fs = fields_in account_trailer e.trailer in
      control e (account_header ∷ account_codes) (account-codes a i) (λ y. y.account) before (λ y r. (refl, (refl, tt)))
      (of-own account_header (detail ∷ []) e.header e.is-header, parts-of detail [] before (tt, tt) (details_in a) (details-begin (details_in a) i.details))
      s u starts x none
      (λ same. right-account (summary_of_all a) fs (subst (λ (z : Summary). checks_of_account z fs ≡ fine tt) same x.closes.balances))

accounts-controlled : (ps : List (List Record)) (s u : State) → All IsAccount ps → s.account ≡ no_summary → run 0 s (concat ps) ≡ fine u
    → All (Controlled account_trailer none) ps
unfolding concat
accounts-controlled [] s u a starts runs = tt
accounts-controlled (p ∷ ps) s u a starts runs =
    let (t, first, rest) = run-two 0 s u p (concat ps) runs in
    let x = through a.0.enclosed s t first in
    (account-controlled p a.0 s t starts x, accounts-controlled ps t u a.1 (ap (λ (y : State). y.account) x.closes.next) rest)

-- ---- groups

module _ (g : List Record) (i : IsGroup g) (s u : State) (starts : s.group ≡ no_summary) (x : Through i.enclosed s u) where
  group-controlled : GroupControlled g
  unfolding among same_bytes balanced
  group-controlled =
      let e = i.enclosed in
      let before = group_header ∷ account_header ∷ account_codes in
      let fs = fields_in group_trailer e.trailer in
      record {
        of-group =
            control e (group_header ∷ group_codes) (group-codes g i) (λ y. y.group) before (λ y r. (refl, (refl, (refl, (refl, tt))))) (
              of-own group_header (account_header ∷ account_codes) e.header e.is-header,
              parts-of account_header account_codes before (tt, (tt, (tt, tt))) (accounts_in g) (accounts-begin (accounts_in g) i.accounts),
            )
            s u starts x (some (length (accounts_in g)))
            (λ same.
            right-counted (summary_of_all g) (summary_of_all g).accounts (length (accounts_in g)) fs (group-accounts g i)
            (subst (λ (z : Summary). checks_with_count z.accounts z fs ≡ fine tt) same x.closes.balances));
        of-accounts = accounts-controlled (accounts_in g) x.opened x.last i.accounts (ap (λ (y : State). y.account) x.opens.next) x.inner;
      }

groups-controlled : (gs : List (List Record)) (s u : State) → All IsGroup gs → s.group ≡ no_summary → run 0 s (concat gs) ≡ fine u → All GroupControlled gs
unfolding concat
groups-controlled [] s u a starts runs = tt
groups-controlled (g ∷ gs) s u a starts runs =
    let (t, first, rest) = run-two 0 s u g (concat gs) runs in
    let x = through a.0.enclosed s t first in
    (group-controlled g a.0 s t starts x, groups-controlled gs t u a.1 (ap (λ (y : State). y.group) x.closes.next) rest)

-- ---- the file

module _ (file : Bytes) (i : IsFile file) (u : State) (x : Through i.enclosed start u) where
  all-controlled : FileControlled file
  unfolding among same_bytes balanced
  all-controlled =
      let e = i.enclosed in
      let before = file_header ∷ group_header ∷ group_codes in
      let rs = file_records file in
      let fs = fields_in file_trailer e.trailer in
      record {
        of-file =
            control e (file_header ∷ file_codes) (file-codes file i) (λ y. y.file) before (λ y r. (refl, (refl, (refl, (refl, (refl, (refl, tt))))))) (
              of-own file_header (group_header ∷ group_codes) e.header e.is-header,
              parts-of group_header group_codes before (tt, (tt, (tt, (tt, (tt, tt))))) (groups_in file) (groups-begin (groups_in file) i.groups),
            )
            start u refl x (some (length (groups_in file)))
            (λ same.
            right-counted (summary_of_all rs) (summary_of_all rs).groups (length (groups_in file)) fs (file-groups file i)
            (subst (λ (z : Summary). checks_with_count z.groups z fs ≡ fine tt) same x.closes.balances));
        of-groups = groups-controlled (groups_in file) x.opened x.last i.groups (ap (λ (y : State). y.group) x.opens.next) x.inner;
      }

pub file-controlled : (file : Bytes) (s : Summary) → judge file ≡ fine s → FileControlled file
file-controlled file s h =
    let i = is-file file s h in
    let a = accepted file s h in
    all-controlled file i a.last (through i.enclosed start a.last a.runs)
