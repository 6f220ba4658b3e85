-- A line in the making: the kinds wanted next and the bytes so far, or a refusal. The drafts stand for parts of `write_line` (rules/specs/Writer.antt):
-- the fields for `kinds_after` and `with_commas`, joined by `chain-is` (proofs/FieldChains.antt); the text for `good_text_or_none` and `line_rest`, joined by
-- `with-text` (write_calls/proofs/CallLaws.antt). Assumes nothing.
use Rattle.std.specs.Prelude as prelude
use Rattle.std.specs.Prelude.{ℕ, ◌+◌, cond, ◌&&◌, List, [], ◌∷◌, ◌++◌, leb, length, take, Some, None}
use Rattle.std.proofs.Math.Option.{Option, none, some}
use Rattle.rules.specs.Bytes.{Bytes, comma, slash, is_empty, clean}
use Rattle.rules.specs.Numbers.{Signed}
use Rattle.rules.specs.Limits.{longest_name}
use Rattle.rules.specs.Outcome.{Outcome, fine, ◌>>=◌, ◌>>◌, check}
use Rattle.rules.specs.Lines.{Code, code_bytes}
use Rattle.rules.specs.Grammar.{Kind, take_next}
use Rattle.rules.specs.Writer.{or_twenty, good_text}
use Rattle.base_quantities.specs.QuantityMeanings.{signed_meant}
use Rattle.base_quantities.specs.declared.Signed as given
use Rattle.read_wanted.specs.TakenMeaning.{judged_of}
use Rattle.write_line.specs.declared.Draft.{Draft}
use Rattle.write_line.specs.declared.Items.{Items}

-- the kinds wanted next, and the bytes so far
pub record Sofar : Type 0 where
  pub kinds : List Kind
  pub bytes : Bytes

-- what a draft says of the line in its space
unfoldable pub draft_of : Draft → Outcome Sofar
draft_of d = or_twenty (judged_of d.taken) >>= λ ks. fine (record { kinds = ks; bytes = take d.len d.line })

-- the bytes of the space in which a line is drafted
abbrev pub line_space : ℕ
line_space = 640

-- the longest field and its mark still fit; every line of the rules does, so no call is refused for it
abbrev pub room_left : Sofar → Outcome (Unit {0})
room_left x = check (leb (length x.bytes + (longest_name + 1)) line_space) 20 0

-- with a code, these kinds wanted after it
abbrev pub begun : Code → List Kind → Outcome Sofar
begun c ks = fine (record { kinds = ks; bytes = code_bytes c })

-- with a field more and its mark: 20 where the reader would refuse it
unfoldable pub with_field : Bytes → ℕ → Sofar → Outcome Sofar
with_field f mark x = do
  room_left x
  check (clean f && leb (length f) longest_name) 20 0
  next ← or_twenty (take_next x.kinds f)
  fine (record { kinds = next; bytes = x.bytes ++ (f ++ (mark ∷ [])) })

unfoldable pub field_added : Bytes → ℕ → Outcome Sofar → Outcome Sofar
field_added f mark o = o >>= λ x. with_field f mark x

-- fields, each with a comma after it, the last with this mark
abbrev pub added_all : List Bytes → ℕ → Outcome Sofar → Outcome Sofar
added_all [] last o = o
added_all (f ∷ []) last o = field_added f last o
added_all (f ∷ g ∷ fs) last o = added_all (g ∷ fs) last (field_added f comma o)

-- with a text, an empty one as "/"
unfoldable pub with_text : Bytes → Sofar → Outcome Sofar
with_text t x = do
  room_left x
  check (good_text t) 20 0
  fine (record { kinds = x.kinds; bytes = x.bytes ++ cond (is_empty t) (slash ∷ []) t })

unfoldable pub text_added : Bytes → Outcome Sofar → Outcome Sofar
text_added t o = o >>= λ x. with_text t x

-- an amount or none; a number or none
abbrev pub amount_given : prelude.Option given.Signed → Option Signed
amount_given (Some a) = some (signed_meant a)
amount_given None = none

abbrev pub items_given : prelude.Option Items → Option ℕ
items_given (Some n) = some n.0
items_given None = none
