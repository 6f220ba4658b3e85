-- A draft with all bytes of its space: what each step answers and what the space then holds, for every draft. Of this the rules need what
-- `draft_of` says (DraftMeaning.antt): joined by `begun-said`, `field-said` and `text-said` (proofs/DrawnLaws.antt). Assumes nothing.
use Rattle.std.specs.Prelude.{ℕ, ◌+◌, Bool, cond, ◌&&◌, List, [], ◌∷◌, ◌++◌, leb, length, replicate}
use Rattle.rules.specs.Bytes.{Bytes, comma, slash, is_empty, clean}
use Rattle.rules.specs.Limits.{longest_name}
use Rattle.rules.specs.Lines.{Code, code_bytes}
use Rattle.rules.specs.Grammar.{Kind, Judged, bad, good, take_next}
use Rattle.rules.specs.Writer.{good_text, placed}
use Rattle.read_wanted.specs.TakenMeaning.{judged_of}
use Rattle.write_line.specs.DraftMeaning.{line_space}
use Rattle.write_line.specs.declared.Draft.{Draft}

-- the kinds wanted next, or a refusal; how many bytes of the line stand; and all bytes of the space
pub record Drawn : Type 0 where
  pub judged : Judged
  pub len : ℕ
  pub space : Bytes

-- a draft and its space
unfoldable pub drawn_of : Draft → Drawn
drawn_of d = record { judged = judged_of d.taken; len = d.len; space = d.line }

-- the space before a line is drafted
abbrev pub new_space : Bytes
new_space = replicate line_space 0

-- with a code, these kinds wanted after it
abbrev pub code_drawn : Code → List Kind → Drawn
code_drawn c ks = record { judged = good ks; len = 3; space = placed 0 (code_bytes c) new_space }

-- refused by 20, with no bytes; the space stays
abbrev pub refused_in : Bytes → Drawn
refused_in space = record { judged = bad 20; len = 0; space = space }

-- the longest field and its mark still fit after so many bytes
abbrev pub room_after : ℕ → Bool
room_after len = leb (len + (longest_name + 1)) line_space

-- with bytes put after the line: where the test holds, and then judged so
abbrev pub bytes_drawn : Bool → Bytes → Judged → Drawn → Drawn
bytes_drawn test bs j x = cond test (record { judged = j; len = x.len + length bs; space = placed x.len bs x.space }) (refused_in x.space)

-- what a step makes of a draft that wants these kinds; a refused one stays as it is
abbrev pub unless_refused : Judged → Drawn → (List Kind → Drawn) → Drawn
unless_refused (bad n) x step = x
unless_refused (good ks) x step = step ks

-- with a field more and its mark, judged as the reader does
unfoldable pub field_drawn : Bytes → ℕ → Drawn → Drawn
field_drawn f mark x =
    unless_refused x.judged x (λ ks.
    bytes_drawn (room_after x.len && (clean f && leb (length f) longest_name)) (f ++ (mark ∷ [])) (take_next ks f) x)

-- fields, each with a comma after it, the last with this mark
abbrev pub all_drawn : List Bytes → ℕ → Drawn → Drawn
all_drawn [] last x = x
all_drawn (f ∷ []) last x = field_drawn f last x
all_drawn (f ∷ g ∷ fs) last x = all_drawn (g ∷ fs) last (field_drawn f comma x)

-- with a text, an empty one as "/"
unfoldable pub text_drawn : Bytes → Drawn → Drawn
text_drawn t x = unless_refused x.judged x (λ ks. bytes_drawn (room_after x.len && good_text t) (cond (is_empty t) (slash ∷ []) t) (good ks) x)
