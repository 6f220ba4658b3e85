-- The line that a call drafts, committed, is what the rules write of it. Assumes nothing.
use mathlib.Core.Path.{◌≡◌, refl, sym, ap, ◌∙◌}
use mathlib.Core.Bool.{Bool, true, false}
use mathlib.Core.List.{List, [], ◌∷◌, append-nil}
use mathlib.Core.Option.{Option, none}
use Prim.Native.Nat.{ℕ, ◌+◌, ◌≤◌}
use native.Mathlib.Omega.{arith}
use lib.ListN.{length, length-append}
use Rattle.rules.specs.Bytes.{Bytes, LF, slash}
use Rattle.rules.specs.Numbers.{Signed, Sum}
use Rattle.rules.specs.Outcome.{Outcome, refused, refuse, fine, ◌>>=◌}
use Rattle.rules.specs.Lines.{Code, code_bytes}
use Rattle.rules.specs.Grammar.{Kind}
use Rattle.rules.specs.Writer.{Call, Writer, Given, given, sum_given, of_given, body_of, line_of, sound, kinds_after, good_text_or_none, wants_item, entry_of, line_fits, write_line}
use Rattle.rules.specs.Writer.{Written, written_by, write}
use Rattle.rules.proofs.Tests.{Known, holds, fails, known}
use Rattle.laws_writer.proofs.FieldsWritten.{takes_all, simples}
use Rattle.laws_writer.proofs.LinesWritten.{code-bytes}
use Rattle.write_line.specs.DraftMeaning.{Sofar, begun, added_all}
use Rattle.write_line.proofs.FieldChains.{no_text, line_sofar, chain-is}
use Rattle.write_commit.specs.Commit.{room_for, committed}

-- ---- a drafted line and the rules' line

-- the draft is of this line, and after it a further item may come or not; or both are refused
pub data Drafts (g : Given) (items : Bool) : Outcome Sofar → Type 0 where
  good-line :
      (x : Sofar) (left : List Kind) → kinds_after g.kinds g.fields ≡ fine left → good_text_or_none g.text ≡ true → wants_item left ≡ items → x.bytes ≡ body_of g
      → Drafts g items (fine x)
  bad-field : (n p : ℕ) → kinds_after g.kinds g.fields ≡ refuse n p → Drafts g items (refuse n p)
  bad-text : (left : List Kind) → kinds_after g.kinds g.fields ≡ fine left → good_text_or_none g.text ≡ false → Drafts g items (refuse 20 0)

module _ (w : Writer) (g : Given) (items : Bool) (room : ℕ) where
  line-size : length (line_of g) ≡ length (body_of g) + 1
  unfolding line_of
  line-size = length-append (body_of g) (LF ∷ [])

  same-room : room_for w (sum_given g.amount) (length (body_of g) + 1) room ≡ line_fits w g room
  unfolding room_for line_fits
  same-room = rw line-size

  drafted : (o : Outcome Sofar) → Drafts g items o → committed w g.code o (sum_given g.amount) items room ≡ write_line w g room
  unfolding committed write_line entry_of of_given line_of
  drafted o (good-line x left f t i b) = rw (f, t, b, same-room, line-size, i)
  drafted o (bad-field n p f) = rw f
  drafted o (bad-text left f t) = rw (f, t)

  -- only a sound state's line is drafted so
  pub committed-is : (o : Outcome Sofar) → (sound w ≡ true → Drafts g items o) → committed w g.code o (sum_given g.amount) items room ≡ write_line w g room
  unfolding committed write_line
  committed-is o d = by-sound (known (sound w))
    where
      by-sound : Known (sound w) → committed w g.code o (sum_given g.amount) items room ≡ write_line w g room
      by-sound (holds e) = drafted o (d e)
      by-sound (fails e) = rw e

-- ---- a line that a slash ends

abbrev pub slash_line : Code → List Kind → List Bytes → Option Signed → Given
slash_line c ks fs a = record { code = c; kinds = ks; fields = fs; text = none; amount = a }

module _ (c : Code) (ks : List Kind) (f : Bytes) (fs : List Bytes) (a : Option Signed) (items : Bool)
    (wants : (left : List Kind) → kinds_after ks (f ∷ fs) ≡ fine left → wants_item left ≡ items) where
  by-fields : (o : Outcome Sofar) (b : Outcome (List Kind)) → kinds_after ks (f ∷ fs) ≡ b → o ≡ (b >>= λ left. fine (line_sofar [] (code_bytes c) (f ∷ fs) slash left))
      → Drafts (slash_line c ks (f ∷ fs) a) items o
  unfolding body_of
  by-fields o (refused why) h e = rw e (bad-field why.number why.place h)
  by-fields o (fine left) h e = rw e (good-line (line_sofar [] (code_bytes c) (f ∷ fs) slash left) left h refl (wants left h) refl)

  pub slash-drafts : (o : Outcome Sofar) → no_text ks ≡ true → length (f ∷ fs) ≤ 8 → o ≡ added_all (f ∷ fs) slash (begun c ks) → Drafts (slash_line c ks (f ∷ fs) a) items o
  slash-drafts o n few e =
      let size = (code-bytes c).size in
      let chain = rw (append-nil ks) at (chain-is [] slash ks (code_bytes c) f fs n refl (omega arith)) in
      by-fields o (kinds_after ks (f ∷ fs)) refl (e ∙ chain)

-- all kinds are used up
pub none-wanted : (ks : List Kind) (fs : List Bytes) → simples ks ≡ true → length ks ≡ length fs → (left : List Kind) → kinds_after ks fs ≡ fine left → wants_item left ≡ false
none-wanted ks fs s n left h = ap wants_item (sym (takes_all ks fs left s n h).0)

-- ---- the answers

-- what a commit of this draft answers
abbrev pub answered : Writer → Bytes → Code → Outcome Sofar → Sum → Bool → Written
answered w out c o sum items = written_by w (committed w c o sum items (length out)) out

-- where the line is the rules' line
pub answers : (w : Writer) (out : Bytes) (o : Outcome Sofar) (sum : Sum) (call : Call) (g : Given) (items : Bool) → given w call ≡ g → sum ≡ sum_given g.amount
    → (sound w ≡ true → Drafts g items o) → answered w out g.code o sum items ≡ write w call out
unfolding write
answers w out o sum call g items e z d = rw (e, z, committed-is w g items (length out) o d)
