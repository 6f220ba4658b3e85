-- A code's number gives its two digits, and codes are the same exactly where their numbers are. Assumes nothing.
use Prim.Native.Nat.{ℕ, ◌+◌, ◌/◌, ◌%◌, ◌≤◌}
use native.Mathlib.Omega.{arith}
use mathlib.Core.Path.{◌≡◌, refl}
use mathlib.Core.List.{[], ◌∷◌}
use lib.Dec.{eqb}
use Rattle.rules.specs.Bytes.{Bytes, comma, letter, same_bytes}
use Rattle.rules.specs.Lines.{Code, file_header, group_header, account_header, detail, account_trailer, group_trailer, file_trailer, continuation, code_bytes, same_code, code_number}

-- what holds of each code holds of every code
by_code : (P : Code → Type 0) → P file_header → P group_header → P account_header → P detail → P account_trailer → P group_trailer → P file_trailer → P continuation → (c : Code) → P c
by_code P a b c d e f g h file_header = a
by_code P a b c d e f g h group_header = b
by_code P a b c d e f g h account_header = c
by_code P a b c d e f g h detail = d
by_code P a b c d e f g h account_trailer = e
by_code P a b c d e f g h group_trailer = f
by_code P a b c d e f g h file_trailer = g
by_code P a b c d e f g h continuation = h

pub number-most : (c : Code) → code_number c ≤ 99
number-most = by_code (λ c. code_number c ≤ 99) (omega arith) (omega arith) (omega arith) (omega arith) (omega arith) (omega arith) (omega arith) (omega arith)

pub number-bytes : (c : Code) → (letter "0" + code_number c / 10) ∷ (letter "0" + code_number c % 10) ∷ comma ∷ [] ≡ code_bytes c
number-bytes = by_code (λ c. (letter "0" + code_number c / 10) ∷ (letter "0" + code_number c % 10) ∷ comma ∷ [] ≡ code_bytes c) refl refl refl refl refl refl refl refl

abbrev Same : Code → Code → Type 0
Same c d = eqb (code_number c) (code_number d) ≡ same_code c d

pub same_number : (c d : Code) → eqb (code_number c) (code_number d) ≡ same_code c d
unfolding same_bytes
same_number file_header = by_code (Same file_header) refl refl refl refl refl refl refl refl
same_number group_header = by_code (Same group_header) refl refl refl refl refl refl refl refl
same_number account_header = by_code (Same account_header) refl refl refl refl refl refl refl refl
same_number detail = by_code (Same detail) refl refl refl refl refl refl refl refl
same_number account_trailer = by_code (Same account_trailer) refl refl refl refl refl refl refl refl
same_number group_trailer = by_code (Same group_trailer) refl refl refl refl refl refl refl refl
same_number file_trailer = by_code (Same file_trailer) refl refl refl refl refl refl refl refl
same_number continuation = by_code (Same continuation) refl refl refl refl refl refl refl refl
