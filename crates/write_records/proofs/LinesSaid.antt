-- What the draft of a call's line says: what the rules' part says of it. Assumes nothing.
use mathlib.Core.Path.{◌≡◌, ap, ◌∙◌}
use mathlib.Core.List.{List}
use Prim.Native.Nat.{ℕ}
use Rattle.rules.specs.Bytes.{Bytes}
use Rattle.rules.specs.Lines.{Code}
use Rattle.rules.specs.Grammar.{Kind}
use Rattle.write_line.specs.DraftMeaning.{draft_of, added_all, text_added}
use Rattle.write_line.specs.DrawnLine.{drawn_of, code_drawn, text_drawn}
use Rattle.write_line.specs.declared.Draft.{Draft}
use Rattle.write_line.proofs.DrawnLaws.{said, said-is, begun-said, begun-size, all_said, all-size, text-said}
use Rattle.write_records.specs.RecordLines.{line_in, line_drawn}

module _ (c : Code) (ks : List Kind) (fs : List Bytes) (last : ℕ) where
  fields-said : said (line_drawn c ks fs last) ≡ line_in c ks fs last
  fields-said = all_said last fs (code_drawn c ks) (begun-size c ks) ∙ ap (added_all fs last) (begun-said c ks)

  module _ (d : Draft) where
    pub line-said : drawn_of d ≡ line_drawn c ks fs last → draft_of d ≡ line_in c ks fs last
    line-said e = said-is d ∙ ap said e ∙ fields-said

    -- with a text
    pub line-text-said : (t : Bytes) → drawn_of d ≡ text_drawn t (line_drawn c ks fs last) → draft_of d ≡ text_added t (line_in c ks fs last)
    line-text-said t e =
        said-is d ∙ ap said e ∙ text-said (line_drawn c ks fs last) (all-size last fs (code_drawn c ks) (begun-size c ks)) t ∙ ap (text_added t) fields-said
