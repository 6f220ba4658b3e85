-- What each class of a type code stands for. Assumes nothing.
use Rattle.std.specs.Prelude.{ℕ, cond, eqb}
use Rattle.rules.specs.Bytes.{letter}
use Rattle.rules.specs.CodeList.{Status, Summary, Detail, Entry, unlisted, NA, CR, DB}
use Rattle.name_codes.specs.declared.CodeClass.{CodeClass}
use Rattle.name_codes.specs.declared.CodeClass.TheVariants as classes

abbrev pub class_meant : CodeClass → Entry
class_meant classes.Unlisted = unlisted
class_meant classes.Status = NA Status
class_meant classes.CreditSummary = CR Summary
class_meant classes.CreditDetail = CR Detail
class_meant classes.DebitSummary = DB Summary
class_meant classes.DebitDetail = DB Detail
class_meant classes.NonMonetary = NA Detail

-- and each letter of the table
unfoldable pub entry_meant : ℕ → Entry
entry_meant b =
    cond (eqb b (letter "s")) (NA Status)
    (cond (eqb b (letter "C")) (CR Summary)
    (cond (eqb b (letter "c")) (CR Detail)
    (cond (eqb b (letter "D")) (DB Summary)
    (cond (eqb b (letter "d")) (DB Detail)
    (cond (eqb b (letter "n")) (NA Detail)
    unlisted)))))
