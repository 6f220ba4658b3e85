-- Accounts and groups as envelopes: how they begin, which codes their records have, and what they are cut into. Assumes nothing.
use Prim.Native.Nat.{◌≤◌}
use mathlib.Core.Path.{◌≡◌, ap, ◌∙◌}
use mathlib.Core.List.{List, [], ◌∷◌, ◌++◌}
use lib.Dec.{T}
use lib.ListN.{length}
use Rattle.rules.specs.Bytes.{same_bytes}
use Rattle.rules.specs.Lines.{group_header, account_header, detail, account_trailer, group_trailer, Record}
use Rattle.rules.specs.Order.{among}
use Rattle.rules.specs.Parts.{heads, Parts, in_accounts, in_details}
use Rattle.rules.specs.Combine.{concat}
use Rattle.laws.specs.LawWords.{All, accounts_in, details_in, IsDetail, IsAccount, IsGroup, Begins, Of}
use Rattle.laws.proofs.Lists.{all_from}
use Rattle.laws.proofs.PartCuts.{part_of, within-envelope, account_codes, group_codes, cut-accounts, cut-details}

-- ---- how parts begin, and the codes of their records

detail-begins : (p : List Record) → IsDetail p → Begins detail [] p
detail-begins [] h = absurd h
detail-begins (r ∷ []) h = (h, tt)
detail-begins (r ∷ q ∷ rs) h = absurd h

pub details-begin : (ps : List (List Record)) → All IsDetail ps → All (Begins detail []) ps
details-begin = all_from (Begins detail []) IsDetail detail-begins

account-begins : (a : List Record) → IsAccount a → Begins account_header account_codes a
unfolding among same_bytes
account-begins a i =
    let e = i.enclosed in
    rw e.whole
    (e.is-header, within-envelope detail [] account_codes (tt, tt) account_trailer (details_in a) e.trailer tt (details-begin (details_in a) i.details) e.is-trailer)

pub accounts-begin : (ps : List (List Record)) → All IsAccount ps → All (Begins account_header account_codes) ps
accounts-begin = all_from (Begins account_header account_codes) IsAccount account-begins

pub group-begins : (g : List Record) → IsGroup g → Begins group_header group_codes g
unfolding among same_bytes
group-begins g i =
    let e = i.enclosed in
    rw e.whole (
      e.is-header,
      within-envelope account_header account_codes group_codes (tt, (tt, (tt, tt))) group_trailer (accounts_in g) e.trailer tt
          (accounts-begin (accounts_in g) i.accounts) e.is-trailer,
    )

pub groups-begin : (ps : List (List Record)) → All IsGroup ps → All (Begins group_header group_codes) ps
groups-begin = all_from (Begins group_header group_codes) IsGroup group-begins

pub account-codes : (a : List Record) → IsAccount a → All (Of (account_header ∷ account_codes)) a
unfolding among same_bytes
account-codes a i = part_of account_header account_codes (account_header ∷ account_codes) (tt, (tt, (tt, tt))) a (account-begins a i)

pub group-codes : (g : List Record) → IsGroup g → All (Of (group_header ∷ group_codes)) g
unfolding among same_bytes
group-codes g i = part_of group_header group_codes (group_header ∷ group_codes) (tt, (tt, (tt, (tt, (tt, tt))))) g (group-begins g i)

-- cut at their parts
pub account-cut : (a : List Record) (i : IsAccount a) → in_details a ≡ record { waiting = i.enclosed.header ∷ []; parts = details_in a }
account-cut a i =
    let e = i.enclosed in
    ap in_details e.whole ∙ cut-details e.header (details_in a) e.trailer e.is-header (details-begin (details_in a) i.details) e.is-trailer

pub group-cut : (g : List Record) (i : IsGroup g) → in_accounts g ≡ record { waiting = i.enclosed.header ∷ []; parts = accounts_in g }
group-cut g i =
    let e = i.enclosed in
    ap in_accounts e.whole ∙ cut-accounts e.header (accounts_in g) e.trailer e.is-header (accounts-begin (accounts_in g) i.accounts) e.is-trailer

-- ---- made of their parts

pub make-account : (r : Record) → T (heads account_header r) → (ds : List (List Record)) (t : Record) → 0 ≤ length ds → All IsDetail ds → T (heads account_trailer t)
    → IsAccount (r ∷ (concat ds ++ (t ∷ [])))
unfolding details_in
make-account r h ds t few a k =
    let cut : details_in (r ∷ (concat ds ++ (t ∷ []))) ≡ ds = ap (λ (p : Parts). p.parts) (cut-details r ds t h (details-begin ds a) k) in
    record { enclosed = record { header = r; trailer = t; is-header = h; is-trailer = k; whole = rw cut }; details = rw cut a }

pub make-group : (r : Record) → T (heads group_header r) → (ps : List (List Record)) (t : Record) → 1 ≤ length ps → All IsAccount ps → T (heads group_trailer t)
    → IsGroup (r ∷ (concat ps ++ (t ∷ [])))
unfolding accounts_in
make-group r h ps t few a k =
    let cut : accounts_in (r ∷ (concat ps ++ (t ∷ []))) ≡ ps = ap (λ (p : Parts). p.parts) (cut-accounts r ps t h (accounts-begin ps a) k) in
    record { enclosed = record { header = r; trailer = t; is-header = h; is-trailer = k; whole = rw cut }; one-or-more = rw cut few; accounts = rw cut a }
