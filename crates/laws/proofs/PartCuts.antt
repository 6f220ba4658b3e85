-- Envelopes cut into their parts: an envelope's records, cut where its parts begin, give these parts. Assumes nothing.
use mathlib.Core.Path.{◌≡◌, ap, ◌∙◌}
use mathlib.Core.Bool.{not}
use mathlib.Core.List.{List, [], ◌∷◌, ◌++◌, append_assoc, append-nil}
use lib.Dec.{T}
use Rattle.rules.specs.Bytes.{same_bytes}
use Rattle.rules.specs.Lines.{Code, file_header, group_header, account_header, detail, account_trailer, group_trailer, file_trailer, Record}
use Rattle.rules.specs.Order.{among}
use Rattle.rules.specs.Parts.{heads, cut_at, in_groups, in_accounts, in_details}
use Rattle.rules.specs.Combine.{concat}
use Rattle.rules.proofs.Tests.{is_true}
use Rattle.laws.specs.LawWords.{All, Begins, Of}
use Rattle.laws.proofs.Lists.{all_both, all-joined, all_from}
use Rattle.laws.proofs.Codes.{of-each, of-own, not-of, of-more}

-- ---- any envelope

-- the codes of parts that begin with code c and have codes cs after it
module _ (c : Code) (cs codes : List Code) (parts-among : All (λ b. T (among b codes)) (c ∷ cs)) where
  pub part_of : (p : List Record) → Begins c cs p → All (Of codes) p
  part_of [] b = absurd b
  part_of (r ∷ rs) b = (
    record { code = c; is_code = b.0; is_among = parts-among.0 },
    all_from (Of codes) (Of cs) (of-more cs codes (of-each (λ b. T (among b codes)) cs parts-among.1)) rs b.1,
  )

  pub parts-of : (ps : List (List Record)) → All (Begins c cs) ps → All (Of codes) (concat ps)
  parts-of ps a = all-joined (Of codes) ps (all_from (All (Of codes)) (Begins c cs) part_of ps a)

  -- and with a last record of code d
  pub within-envelope : (d : Code) (ps : List (List Record)) (t : Record) → T (among d codes) → All (Begins c cs) ps → T (heads d t) → All (Of codes) (concat ps ++ (t ∷ []))
  within-envelope d ps t m a h = all_both (Of codes) (concat ps) (t ∷ []) (parts-of ps a) (record { code = d; is_code = h; is_among = m }, tt)

-- cut before each record of code c and each of code d
module _ (e c d : Code) (cs : List Code) (c-else : T (not (among c cs))) (d-else : T (not (among d cs)))
    (e-c : T (not (among c (e ∷ [])))) (e-d : T (not (among d (e ∷ [])))) (d-c : T (not (among c (d ∷ [])))) where
  plain-parts : (rs qs ws : List Record) (gs : List (List Record)) → All (Of cs) rs → cut_at c d qs ≡ record { waiting = ws; parts = gs }
      → cut_at c d (rs ++ qs) ≡ record { waiting = rs ++ ws; parts = gs }
  unfolding cut_at
  plain-parts [] qs ws gs a h = h
  plain-parts (r ∷ rs) qs ws gs a h = rw (not-of cs c r c-else a.0, not-of cs d r d-else a.0, plain-parts rs qs ws gs a.1 h)

  part-first : (r : Record) (qs ws : List Record) (gs : List (List Record)) → T (heads c r) → cut_at c d qs ≡ record { waiting = ws; parts = gs }
      → cut_at c d (r ∷ qs) ≡ record { waiting = []; parts = (r ∷ ws) ∷ gs }
  unfolding cut_at
  part-first r qs ws gs h k = rw (is_true (heads c r) h, k)

  all-parts : (ps : List (List Record)) (t : Record) → All (Begins c cs) ps → T (heads d t) → cut_at c d (concat ps ++ (t ∷ [])) ≡ record { waiting = []; parts = ps }
  unfolding concat cut_at
  all-parts [] t a h = rw (not-of (d ∷ []) c t d-c (of-own d [] t h), is_true (heads d t) h)
  all-parts ([] ∷ ps) t a h = absurd a.0
  all-parts ((r ∷ rs) ∷ ps) t a h =
      part-first r ((rs ++ concat ps) ++ (t ∷ [])) rs ps a.0.0
      (ap (cut_at c d) (append_assoc rs (concat ps) (t ∷ [])) ∙ plain-parts rs (concat ps ++ (t ∷ [])) [] ps a.0.1 (all-parts ps t a.1 h) ∙ simp append-nil)

  cut-at : (h : Record) (ps : List (List Record)) (t : Record) → T (heads e h) → All (Begins c cs) ps → T (heads d t)
      → cut_at c d (h ∷ (concat ps ++ (t ∷ []))) ≡ record { waiting = h ∷ []; parts = ps }
  unfolding cut_at
  cut-at h ps t is-h a is-t = rw (not-of (e ∷ []) c h e-c (of-own e [] h is-h), not-of (e ∷ []) d h e-d (of-own e [] h is-h), all-parts ps t a is-t)

-- ---- the three envelopes

-- the codes after the first record of an account, of a group and of a file
abbrev pub account_codes : List Code
account_codes = detail ∷ account_trailer ∷ []

abbrev pub group_codes : List Code
group_codes = account_header ∷ detail ∷ account_trailer ∷ group_trailer ∷ []

abbrev pub file_codes : List Code
file_codes = group_header ∷ account_header ∷ detail ∷ account_trailer ∷ group_trailer ∷ file_trailer ∷ []

module _ (h : Record) (ps : List (List Record)) (t : Record) where
  pub cut-groups : T (heads file_header h) → All (Begins group_header group_codes) ps → T (heads file_trailer t)
      → in_groups (h ∷ (concat ps ++ (t ∷ []))) ≡ record { waiting = h ∷ []; parts = ps }
  unfolding in_groups among same_bytes
  cut-groups = cut-at file_header group_header file_trailer group_codes tt tt tt tt tt h ps t

  pub cut-accounts : T (heads group_header h) → All (Begins account_header account_codes) ps → T (heads group_trailer t)
      → in_accounts (h ∷ (concat ps ++ (t ∷ []))) ≡ record { waiting = h ∷ []; parts = ps }
  unfolding in_accounts among same_bytes
  cut-accounts = cut-at group_header account_header group_trailer account_codes tt tt tt tt tt h ps t

  pub cut-details : T (heads account_header h) → All (Begins detail []) ps → T (heads account_trailer t)
      → in_details (h ∷ (concat ps ++ (t ∷ []))) ≡ record { waiting = h ∷ []; parts = ps }
  unfolding in_details among same_bytes
  cut-details = cut-at account_header detail account_trailer [] tt tt tt tt tt h ps t
