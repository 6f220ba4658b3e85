-- The numbers of groups, accounts and details: a summary's is the number of the parts. Assumes nothing.
use Prim.Native.Nat.{ℕ, ◌+◌}
use mathlib.Core.Path.{◌≡◌, refl, ap, ◌∙◌}
use mathlib.Core.List.{List, [], ◌∷◌}
use native.Mathlib.Omega.{arith}
use lib.Dec.{T}
use lib.ListN.{length}
use Rattle.rules.specs.Bytes.{Bytes, same_bytes}
use Rattle.rules.specs.Lines.{Code, file_header, group_header, account_header, detail, account_trailer, group_trailer, file_trailer, Record, file_records}
use Rattle.rules.specs.Records.{Field}
use Rattle.rules.specs.Totals.{Summary, no_summary, ◌⊞◌, one, adding, of_record}
use Rattle.rules.specs.Parts.{heads, fields_in, groups_in}
use Rattle.rules.specs.Combine.{summary_of, summary_of_all, concat}
use Rattle.laws.specs.LawWords.{All, add_up, accounts_in, details_in, Enclosed, IsAccount, IsGroup, IsFile, Begins, Of}
use Rattle.laws.proofs.Lists.{all_from, add-ones}
use Rattle.laws.proofs.Codes.{of-each}
use Rattle.laws.proofs.PartCuts.{account_codes, group_codes}
use Rattle.laws.proofs.Envelopes.{details-begin, accounts-begin, groups-begin}
use Rattle.laws.proofs.SummarySums.{summary-append, summary-envelope, summary-as}

-- a number in summaries that counts the records of code c
record Tally (c : Code) : Type 0 where
  get : Summary → ℕ
  nothing : get no_summary ≡ 0
  adds : (a b : Summary) → get (a ⊞ b) ≡ get a + get b
  counts : (d : Code) (r : Record) (fs : List Field) → get (of_record d r fs) ≡ one d c

-- of records, the number of those of code c
abbrev tally : {c : Code} → Tally c → List Record → ℕ
tally t rs = t.get (summary_of_all rs)

module _ {c : Code} (t : Tally c) where
  in-record : (d : Code) (r : Record) → T (heads d r) → t.get (summary_of r) ≡ one d c
  in-record d r h = ap t.get (summary-as d r h) ∙ t.counts d r (fields_in d r)

  none_in : (cs : List Code) (rs : List Record) → All (λ d. one d c ≡ 0) cs → All (Of cs) rs → tally t rs ≡ 0
  unfolding summary_of_all
  none_in cs [] n a = t.nothing
  none_in cs (r ∷ rs) n a =
      let o = a.0 in
      t.adds (summary_of r) (summary_of_all rs)
      ∙ rw (in-record o.code r o.is_code, of-each (λ d. one d c ≡ 0) cs n o.code o.is_among, none_in cs rs n a.1)

  once-in : (cs : List Code) (p : List Record) → one c c ≡ 1 → All (λ d. one d c ≡ 0) cs → Begins c cs p → tally t p ≡ 1
  unfolding summary_of_all
  once-in cs [] own n b = absurd b
  once-in cs (r ∷ rs) own n b = t.adds (summary_of r) (summary_of_all rs) ∙ rw (in-record c r b.0, own, none_in cs rs n b.1)

  -- of parts, the sum of those of each
  in_parts : (f : List Record → ℕ) (ps : List (List Record)) → All (λ p. tally t p ≡ f p) ps → tally t (concat ps) ≡ add_up f ps
  unfolding concat add_up summary_of_all
  in_parts f [] a = t.nothing
  in_parts f (p ∷ ps) a = ap t.get (summary-append p (concat ps)) ∙ t.adds (summary_of_all p) (summary_of_all (concat ps)) ∙ rw (a.0, in_parts f ps a.1)

  -- of parts that begin with code c and have it nowhere else, their number
  number_of : (cs : List Code) (ps : List (List Record)) → one c c ≡ 1 → All (λ d. one d c ≡ 0) cs → All (Begins c cs) ps → tally t (concat ps) ≡ length ps
  number_of cs ps own n a = in_parts (λ p. 1) ps (all_from (λ p. tally t p ≡ 1) (Begins c cs) (λ p. once-in cs p own n) ps a) ∙ add-ones ps

  -- an envelope has what its parts have
  in-envelope : (a d : Code) (ps : List (List Record)) (rs : List Record) → one a c ≡ 0 → one d c ≡ 0 → Enclosed a d ps rs → tally t rs ≡ tally t (concat ps)
  in-envelope a d ps rs p q e =
      ap (tally t) e.whole
      ∙ ap t.get (summary-envelope e.header (concat ps) e.trailer)
      ∙ t.adds (summary_of e.header ⊞ summary_of_all (concat ps)) (summary_of e.trailer)
      ∙ rw (t.adds (summary_of e.header) (summary_of_all (concat ps)), in-record a e.header e.is-header, in-record d e.trailer e.is-trailer, p, q) (omega arith)

-- ---- groups, accounts and details

groups-tally : Tally group_header
unfolding ◌⊞◌ of_record adding
groups-tally = record { get = λ s. s.groups; nothing = refl; adds = λ a b. refl; counts = λ d r fs. refl }

accounts-tally : Tally account_header
unfolding ◌⊞◌ of_record adding
accounts-tally = record { get = λ s. s.accounts; nothing = refl; adds = λ a b. refl; counts = λ d r fs. refl }

details-tally : Tally detail
unfolding ◌⊞◌ of_record adding
details-tally = record { get = λ s. s.details; nothing = refl; adds = λ a b. refl; counts = λ d r fs. refl }

pub account-details : (a : List Record) → IsAccount a → (summary_of_all a).details ≡ length (details_in a)
unfolding same_bytes details-tally
account-details a i =
    in-envelope details-tally account_header account_trailer (details_in a) a refl refl i.enclosed
    ∙ number_of details-tally [] (details_in a) refl tt (details-begin (details_in a) i.details)

pub group-accounts : (g : List Record) → IsGroup g → (summary_of_all g).accounts ≡ length (accounts_in g)
unfolding same_bytes accounts-tally
group-accounts g i =
    in-envelope accounts-tally group_header group_trailer (accounts_in g) g refl refl i.enclosed
    ∙ number_of accounts-tally account_codes (accounts_in g) refl (refl, (refl, tt)) (accounts-begin (accounts_in g) i.accounts)

-- the number of details of a group
abbrev pub details_of : List Record → ℕ
details_of g = add_up (λ a. length (details_in a)) (accounts_in g)

group-details : (g : List Record) → IsGroup g → (summary_of_all g).details ≡ details_of g
unfolding same_bytes details-tally
group-details g i =
    in-envelope details-tally group_header group_trailer (accounts_in g) g refl refl i.enclosed
    ∙ in_parts details-tally (λ a. length (details_in a)) (accounts_in g)
    (all_from (λ a. (summary_of_all a).details ≡ length (details_in a)) IsAccount account-details (accounts_in g) i.accounts)

module _ (file : Bytes) (i : IsFile file) where
  pub file-groups : (summary_of_all (file_records file)).groups ≡ length (groups_in file)
  unfolding same_bytes groups-tally
  file-groups =
      in-envelope groups-tally file_header file_trailer (groups_in file) (file_records file) refl refl i.enclosed
      ∙ number_of groups-tally group_codes (groups_in file) refl (refl, (refl, (refl, (refl, tt)))) (groups-begin (groups_in file) i.groups)

  pub file-accounts : (summary_of_all (file_records file)).accounts ≡ add_up (λ g. length (accounts_in g)) (groups_in file)
  unfolding same_bytes accounts-tally
  file-accounts =
      in-envelope accounts-tally file_header file_trailer (groups_in file) (file_records file) refl refl i.enclosed
      ∙ in_parts accounts-tally (λ g. length (accounts_in g)) (groups_in file)
      (all_from (λ g. (summary_of_all g).accounts ≡ length (accounts_in g)) IsGroup group-accounts (groups_in file) i.groups)

  pub file-details : (summary_of_all (file_records file)).details ≡ add_up details_of (groups_in file)
  unfolding same_bytes details-tally
  file-details =
      in-envelope details-tally file_header file_trailer (groups_in file) (file_records file) refl refl i.enclosed
      ∙ in_parts details-tally details_of (groups_in file) (all_from (λ g. (summary_of_all g).details ≡ details_of g) IsGroup group-details (groups_in file) i.groups)
