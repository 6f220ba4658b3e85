-- The rules' code that a `Code` stands for, and the bytes that its digits stand for. Assumes nothing.
use Rattle.std.specs.Prelude.{[], ◌∷◌}
use Rattle.rules.specs.Bytes.{Bytes, comma}
use Rattle.rules.specs.Lines as lines
use Rattle.base_codes.specs.declared.Code.{Code}
use Rattle.base_codes.specs.declared.Code.TheVariants as codes
use Rattle.base_codes.specs.declared.Digits.{Digits}

abbrev pub code_meant : Code → lines.Code
code_meant codes.FileHeader = lines.file_header
code_meant codes.GroupHeader = lines.group_header
code_meant codes.AccountHeader = lines.account_header
code_meant codes.Detail = lines.detail
code_meant codes.AccountTrailer = lines.account_trailer
code_meant codes.GroupTrailer = lines.group_trailer
code_meant codes.FileTrailer = lines.file_trailer
code_meant codes.Continuation = lines.continuation

-- two digits and a comma, with which a line of that code begins
abbrev pub bytes_meant : Digits → Bytes
bytes_meant d = d.0 ∷ d.1 ∷ comma ∷ []
