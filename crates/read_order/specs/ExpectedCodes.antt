-- The codes that may come next. Assumes nothing.
use Rattle.std.specs.Prelude.{List, [], ◌∷◌}
use Rattle.rules.specs.Lines.{Code}
use Rattle.base_codes.specs.CodeMeaning.{code_meant}
use Rattle.read_order.specs.declared.Expected.{Expected}
use Rattle.read_order.specs.declared.Expected.TheVariants.{Nothing, One, Either}

-- the codes that may come next
abbrev pub expected_meant : Expected → List Code
expected_meant Nothing = []
expected_meant (One c) = code_meant c ∷ []
expected_meant (Either c d) = code_meant c ∷ code_meant d ∷ []
