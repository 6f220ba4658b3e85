-- Groups of an accepted file, each in its records: all but its 98, and its 98. They are cut from the records ahead as the rules cut them. Assumes nothing.
use Prim.Native.Nat.{ℕ}
use native.Mathlib.Omega.{arith}
use mathlib.Core.Path.{◌≡◌, refl, sym, ap, ◌∙◌}
use mathlib.Core.Bool.{true}
use mathlib.Core.List.{List, [], ◌∷◌, ◌++◌, append_assoc}
use lib.Dec.{T}
use Rattle.rules.specs.Bytes.{Bytes, same_bytes}
use Rattle.rules.specs.Lines.{Code, group_header, account_header, group_trailer, file_trailer, Record}
use Rattle.rules.specs.Order.{among}
use Rattle.rules.specs.Parts.{heads}
use Rattle.rules.specs.Combine.{concat}
use Rattle.rules.specs.Split.{groups_for}
use Rattle.rules.proofs.Tests.{is_true}
use Rattle.laws.specs.LawWords.{All, accounts_in, Of}
use Rattle.laws.proofs.Lists.{all_from}
use Rattle.laws.proofs.Codes.{of-own, not-of}
use Rattle.laws.proofs.PartCuts.{parts-of, account_codes}
use Rattle.laws.proofs.Envelopes.{accounts-begin}
use Rattle.join_groups.specs.GroupsTaken.{ends, cut_after, first_in, in_front, named_in, groups_taken}
use Rattle.join_groups.proofs.GroupsAhead.{Stands, Ahead, matching}
use Rattle.join_groups.proofs.GroupCuts.{GoesOn, cut-ended, none-in-front}
use Rattle.join_groups.proofs.ReceiverLaws.{receiver-is}

-- the last of a list is one
snoc-same : {A : Type 0} (xs ys : List A) (x y : A) → xs ++ (x ∷ []) ≡ ys ++ (y ∷ []) → (xs ≡ ys) × (x ≡ y)
snoc-same [] [] x y e = (refl, cc)
snoc-same [] (z ∷ []) x y e = let q : ◌≡◌ {A = ℕ} 0 1 = cc in absurd (omega arith)
snoc-same [] (z ∷ w ∷ ys) x y e = let q : ◌≡◌ {A = ℕ} 0 1 = cc in absurd (omega arith)
snoc-same (z ∷ []) [] x y e = let q : ◌≡◌ {A = ℕ} 0 1 = cc in absurd (omega arith)
snoc-same (z ∷ w ∷ xs) [] x y e = let q : ◌≡◌ {A = ℕ} 0 1 = cc in absurd (omega arith)
snoc-same (z ∷ xs) (w ∷ ys) x y e =
    let rest = snoc-same xs ys x y (cc) in
    let first : z ≡ w = cc in
    (rw (first, rest.0), rest.1)

module _ (g : List Record) (s : Stands g) where
  abbrev before : List Record
  before = s.controlled.before

  envelope : before ≡ s.is-group.enclosed.header ∷ concat (accounts_in g)
  envelope =
      let e = s.is-group.enclosed in
      (snoc-same before (e.header ∷ concat (accounts_in g)) s.controlled.trailer e.trailer (sym s.controlled.whole ∙ e.whole)).0

  -- the codes before the 98
  abbrev inner : List Code
  inner = group_header ∷ account_header ∷ account_codes

  before-codes : All (Of inner) before
  unfolding among same_bytes
  before-codes =
      let e = s.is-group.enclosed in
      rw envelope (
        of-own group_header (account_header ∷ account_codes) e.header e.is-header,
        parts-of account_header account_codes inner (tt, (tt, (tt, tt))) (accounts_in g) (accounts-begin (accounts_in g) s.is-group.accounts),
      )

  -- so none of them ends the group, and its 98 does
  pub goes_on : All GoesOn before
  unfolding among same_bytes
  goes_on = all_from GoesOn (Of inner) (λ r o. rw (not-of inner group_trailer r tt o, not-of inner file_trailer r tt o)) before before-codes

  pub is-ended : ends s.controlled.trailer ≡ true
  is-ended = rw (is_true (heads group_trailer s.controlled.trailer) s.controlled.is-trailer)

  is-02 : heads group_header (first_in g) ≡ true
  unfolding first_in
  is-02 = let e = s.is-group.enclosed in rw e.whole (is_true (heads group_header e.header) e.is-header)

  -- it is cut from the records that stand after it
  cut-next : (rs : List Record) → in_front (cut_after (g ++ rs)) ≡ g ∷ in_front (cut_after rs)
  unfolding in_front
  cut-next rs =
      let c = s.controlled in
      let cut : cut_after (g ++ rs) ≡ g ∷ cut_after rs =
      ap (λ (qs : List Record). cut_after (qs ++ rs)) c.whole ∙ ap cut_after (append_assoc before (c.trailer ∷ []) rs)
      ∙ cut-ended c.trailer is-ended before rs goes_on ∙ ap (λ (qs : List Record). qs ∷ cut_after rs) (sym c.whole) in
      ap in_front cut ∙ rw is-02

-- ---- all of them

cut_all : (gs : List (List Record)) (t : Record) → All Stands gs → T (heads file_trailer t) → in_front (cut_after (concat gs ++ (t ∷ []))) ≡ gs
unfolding concat among same_bytes first_in
cut_all [] t a h = none-in-front (t ∷ []) (not-of (file_trailer ∷ []) group_header t tt (of-own file_trailer [] t h))
cut_all (g ∷ gs) t a h = ap (λ (rs : List Record). in_front (cut_after rs)) (append_assoc g (concat gs) (t ∷ [])) ∙ cut-next g a.0 (concat gs ++ (t ∷ [])) ∙ rw (cut_all gs t a.1 h)

named-all : (name : Bytes) (gs : List (List Record)) → All Stands gs → named_in name gs ≡ groups_for name gs
unfolding named_in groups_for
named-all name [] a = refl
named-all name (g ∷ gs) a = rw (receiver-is name g a.0, named-all name gs a.1)

-- of an accepted file the groups for a name are taken
pub taken-are : (name xs : Bytes) → Ahead xs → groups_taken name xs ≡ matching name xs
unfolding groups_taken
taken-are name xs a = ap (λ (rs : List Record). named_in name (in_front (cut_after rs))) a.reads ∙ ap (named_in name) (cut_all _ a.trailer a.groups a.is-trailer) ∙ named-all name _ a.groups
