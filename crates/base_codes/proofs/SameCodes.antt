-- What `a == b` says of two codes. Assumes nothing.
use Rattle.std.proofs.Common.{◌≡◌, refl}
use denote.Enum.Bare.{sameb}
use Rattle.rules.specs.Bytes.{same_bytes}
use Rattle.rules.specs.Lines.{same_code}
use Rattle.base_codes.specs.declared.Code.{Code}
use Rattle.base_codes.specs.declared.Code.TheVariants.{FileHeader, GroupHeader, AccountHeader, Detail, AccountTrailer, GroupTrailer, FileTrailer, Continuation}
use Rattle.base_codes.specs.contracts.Code.{the_type}
use Rattle.base_codes.specs.CodeMeaning.{code_meant}

-- what holds of each code holds of every code
by_code : (P : Code → Type 0) → P FileHeader → P GroupHeader → P AccountHeader → P Detail → P AccountTrailer → P GroupTrailer → P FileTrailer → P Continuation → (c : Code) → P c
by_code P a b c d e f g h FileHeader = a
by_code P a b c d e f g h GroupHeader = b
by_code P a b c d e f g h AccountHeader = c
by_code P a b c d e f g h Detail = d
by_code P a b c d e f g h AccountTrailer = e
by_code P a b c d e f g h GroupTrailer = f
by_code P a b c d e f g h FileTrailer = g
by_code P a b c d e f g h Continuation = h

abbrev Same : Code → Code → Type 0
Same a b = sameb the_type a b ≡ same_code (code_meant a) (code_meant b)

-- where `c.eq` is the step of `a == b`: `c.eq.ensures ∙ same_codes a b : c.eq.result ≡ same_code (code_meant a) (code_meant b)`
pub same_codes : (a b : Code) → sameb the_type a b ≡ same_code (code_meant a) (code_meant b)
unfolding same_bytes
same_codes FileHeader = by_code (Same FileHeader) refl refl refl refl refl refl refl refl
same_codes GroupHeader = by_code (Same GroupHeader) refl refl refl refl refl refl refl refl
same_codes AccountHeader = by_code (Same AccountHeader) refl refl refl refl refl refl refl refl
same_codes Detail = by_code (Same Detail) refl refl refl refl refl refl refl refl
same_codes AccountTrailer = by_code (Same AccountTrailer) refl refl refl refl refl refl refl refl
same_codes GroupTrailer = by_code (Same GroupTrailer) refl refl refl refl refl refl refl refl
same_codes FileTrailer = by_code (Same FileTrailer) refl refl refl refl refl refl refl refl
same_codes Continuation = by_code (Same Continuation) refl refl refl refl refl refl refl refl
