-- The line that each call drafts is the one that the rules say, and so is what is written of it. Assumes nothing.
use mathlib.Core.Path.{◌≡◌, refl, sym, ap, ◌∙◌}
use mathlib.Core.Bool.{Bool, true, false, cond, not}
use mathlib.Core.List.{List, [], ◌∷◌, ◌++◌, append_assoc}
use mathlib.Core.Option.{Option, none, some}
use Prim.Native.Nat.{◌+◌, ◌≤◌}
use native.Mathlib.Omega.{arith}
use lib.ListN.{length, length-append}
use borrow.Author.Tests.{le-leb}
use Rattle.rules.specs.Bytes.{Bytes, comma, slash, is_empty}
use Rattle.rules.specs.Numbers.{Signed, Sum, zero_sum}
use Rattle.rules.specs.Outcome.{Outcome, refused, fine, ◌>>=◌, check}
use Rattle.rules.specs.Lines.{Code, file_header, group_header, account_header, detail, continuation, code_bytes}
use Rattle.rules.specs.Grammar.{Kind, further_type, detail_type, reference, text, fields_of}
use Rattle.rules.specs.Writer.{Item, Call, write_header, write_group, write_account, write_item, write_detail, Writer, given, amount_bytes, item_count_bytes}
use Rattle.rules.specs.Writer.{item_fields, sum_given, with_commas, body_of, kinds_after, good_text, wants_item, Written, write}
use Rattle.rules.proofs.Tests.{Known, holds, fails, known}
use Rattle.laws_writer.proofs.ItemsWritten.{further-wants, account-wants}
use Rattle.laws_writer.proofs.DetailsWritten.{detail_rest, detail-left}
use Rattle.write_line.specs.DraftMeaning.{Sofar, draft_of, with_text, text_added}
use Rattle.write_line.specs.DrawnLine.{drawn_of, text_drawn}
use Rattle.write_line.specs.declared.Draft.{Draft}
use Rattle.write_records.specs.RecordLines.{line_drawn}
use Rattle.write_records.proofs.LinesSaid.{line-said, line-text-said}
use Rattle.std.specs.Prelude as prelude
use Rattle.std.specs.Prelude.{Some, None, unwrap_or}
use Rattle.write_records.specs.ItemMeaning.{item_meant, item_given}
use Rattle.write_records.specs.declared.Item as records
use Rattle.write_line.proofs.FieldChains.{no_text, line_sofar, chain-is, fields_fit}
use Rattle.write_commit.proofs.LinesCommitted.{Drafts, good-line, bad-field, bad-text, slash_line, slash-drafts, none-wanted, answered, answers}

-- ---- each call: its drafted line committed is what the rules write

-- the line of this draft
module _ (w : Writer) (out : Bytes) (draft : Draft) (sum : Sum) where
  -- that a slash ends
  slash-written : (call : Call) (c : Code) (ks : List Kind) (f : Bytes) (fs : List Bytes) (a : Option Signed) (items : Bool) → given w call ≡ slash_line c ks (f ∷ fs) a
      → ((left : List Kind) → kinds_after ks (f ∷ fs) ≡ fine left → wants_item left ≡ items) → no_text ks ≡ true → length (f ∷ fs) ≤ 8 → sum ≡ sum_given a
      → drawn_of draft ≡ line_drawn c ks (f ∷ fs) slash → answered w out c (draft_of draft) sum items ≡ write w call out
  slash-written call c ks f fs a items g wants n few z e =
      answers w out (draft_of draft) sum call (slash_line c ks (f ∷ fs) a) items g z (λ _.
      slash-drafts c ks f fs a items wants (draft_of draft) n few (line-said c ks (f ∷ fs) slash draft e))

  pub header-written : (s r d t n : Bytes) → sum ≡ zero_sum
      → drawn_of draft ≡ line_drawn file_header (fields_of file_header) (s ∷ r ∷ d ∷ t ∷ n ∷ [] ∷ [] ∷ (50 ∷ []) ∷ []) slash
      → answered w out file_header (draft_of draft) sum false ≡ write w (write_header s r d t n) out
  unfolding given fields_of
  header-written s r d t n =
      let fs = r ∷ d ∷ t ∷ n ∷ [] ∷ [] ∷ (50 ∷ []) ∷ [] in
      slash-written (write_header s r d t n) file_header (fields_of file_header) s fs none false refl (none-wanted (fields_of file_header) (s ∷ fs) refl refl) refl (omega arith)

  pub group-written : (u p s d t c m : Bytes) → sum ≡ zero_sum → drawn_of draft ≡ line_drawn group_header (fields_of group_header) (u ∷ p ∷ s ∷ d ∷ t ∷ c ∷ m ∷ []) slash
      → answered w out group_header (draft_of draft) sum false ≡ write w (write_group u p s d t c m) out
  unfolding given fields_of
  group-written u p s d t c m =
      let fs = p ∷ s ∷ d ∷ t ∷ c ∷ m ∷ [] in
      slash-written (write_group u p s d t c m) group_header (fields_of group_header) u fs none false refl (none-wanted (fields_of group_header) (u ∷ fs) refl refl) refl (omega arith)

  pub account-written : (n c : Bytes) (i : Item) → sum ≡ sum_given i.amount
      → drawn_of draft ≡ line_drawn account_header (fields_of account_header) (n ∷ c ∷ item_fields i) slash
      → answered w out account_header (draft_of draft) sum (not (is_empty i.type)) ≡ write w (write_account n c (some i)) out
  unfolding given fields_of
  account-written n c i =
      slash-written (write_account n c (some i)) account_header (fields_of account_header) n (c ∷ item_fields i) i.amount (not (is_empty i.type)) refl (account-wants n c i) refl (omega arith)

  pub item-written : (i : Item) → sum ≡ sum_given i.amount → drawn_of draft ≡ line_drawn continuation (further_type ∷ []) (item_fields i) slash
      → answered w out continuation (draft_of draft) sum true ≡ write w (write_item i) out
  unfolding given
  item-written i =
      let fs = amount_bytes i.amount ∷ item_count_bytes i.item_count ∷ [] ∷ [] in
      slash-written (write_item i) continuation (further_type ∷ []) i.type fs i.amount true refl (further-wants i) refl (omega arith)

-- ---- a detail, with its text

module _ (w : Writer) (y : Bytes) (a : Option Signed) (b c t : Bytes) where
  abbrev parts : List Bytes
  parts = y ∷ detail_rest a b c

  abbrev wanted : List Kind
  wanted = detail_type ∷ reference ∷ reference ∷ []

  -- the line up to the text, and with it
  abbrev up_to_text : Bytes
  up_to_text = code_bytes detail ++ (with_commas parts ++ (comma ∷ []))

  abbrev with_the : List Kind → Sofar
  with_the left = record { kinds = left ++ (text ∷ []); bytes = up_to_text ++ cond (is_empty t) (slash ∷ []) t }

  by-text : (left : List Kind) → kinds_after wanted parts ≡ fine left → Known (good_text t)
      → Drafts (given w (write_detail y a b c t)) false (check (good_text t) 20 0 >>= λ _. fine (with_the left))
  unfolding given body_of
  by-text left h (holds g) = rw g (good-line (with_the left) left h g (ap wants_item (sym (detail-left y a b c left h))) (simp append_assoc))
  by-text left h (fails g) = rw g (bad-text left h g)

  with-text : (left : List Kind) → kinds_after wanted parts ≡ fine left → Drafts (given w (write_detail y a b c t)) false (with_text t (line_sofar (text ∷ []) (code_bytes detail) parts comma left))
  unfolding with_text
  with-text left h =
      let fits = fields_fit wanted y (detail_rest a b c) left refl h in
      let size : length up_to_text ≡ 3 + (length (with_commas parts) + 1)
      = rw (length-append (code_bytes detail) (with_commas parts ++ (comma ∷ [])), length-append (with_commas parts) (comma ∷ [])) in
      rw (le-leb (length up_to_text + 77) 640 (omega arith)) (by-text left h (known (good_text t)))

  text-fields : (o : Outcome Sofar) (x : Outcome (List Kind)) → kinds_after wanted parts ≡ x
      → o ≡ text_added t (x >>= λ left. fine (line_sofar (text ∷ []) (code_bytes detail) parts comma left)) → Drafts (given w (write_detail y a b c t)) false o
  unfolding given text_added
  text-fields o (refused why) h e = rw e (bad-field why.number why.place h)
  text-fields o (fine left) h e = rw e (with-text left h)

  pub detail-written : (out : Bytes) (draft : Draft) (sum : Sum) → sum ≡ sum_given a
      → drawn_of draft ≡ text_drawn t (line_drawn detail (fields_of detail) parts comma)
      → answered w out detail (draft_of draft) sum false ≡ write w (write_detail y a b c t) out
  unfolding given fields_of
  detail-written out draft sum z e =
      answers w out (draft_of draft) sum (write_detail y a b c t) (given w (write_detail y a b c t)) false refl z (λ _.
      text-fields (draft_of draft) (kinds_after wanted parts) refl
      (line-text-said detail (fields_of detail) parts comma draft t e ∙ ap (text_added t) (chain-is (text ∷ []) comma wanted (code_bytes detail) y (detail_rest a b c) refl refl (omega arith))))

-- ---- an account without an item

-- is one with an empty item
no_item : (w : Writer) (n c out : Bytes) → write w (write_account n c (some (record { type = []; amount = none; item_count = none }))) out ≡ write w (write_account n c none) out
unfolding write given
no_item w n c out = refl

pub item-or-none : (w : Writer) (n c out : Bytes) (o : prelude.Option records.Item) (empty : records.Item) {i : records.Item} → i ≡ unwrap_or o empty
    → item_meant empty ≡ record { type = []; amount = none; item_count = none } → write w (write_account n c (some (item_meant i))) out ≡ write w (write_account n c (item_given o)) out
item-or-none w n c out (Some j) empty h e = rw h
item-or-none w n c out None empty h e = rw h (ap (λ (i : Item). write w (write_account n c (some i)) out) e ∙ no_item w n c out)
