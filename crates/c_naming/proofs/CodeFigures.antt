-- The figures of a type code, from the class that it was found to be of. Assumes nothing.
use Prim.Native.Nat.{ℕ}
use mathlib.Core.Path.{◌≡◌, sym, ap, ◌∙◌}
use Rattle.rules.specs.CodeList.{entry_of}
use Rattle.rules.specs.Answers.{code_figures, code_answer}
use Rattle.name_codes.specs.declared.CodeClass.{CodeClass}
use Rattle.name_codes.specs.ClassMeaning.{class_meant}

pub class-figures : (code : ℕ) {found class : CodeClass} → found ≡ class → class_meant found ≡ entry_of code → code_figures (class_meant class) ≡ code_answer code
unfolding code_answer
class-figures code same right = ap code_figures (sym (ap class_meant same) ∙ right)
