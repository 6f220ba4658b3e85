-- What the call about a type code answers C, in the rules' terms: the same numbers, figure by figure. Assumes nothing.
use Rattle.rules.specs.Answers.{CodeAnswer}
use Rattle.c_naming.specs.declared.Bai2Code.{Bai2Code}

abbrev pub code_meant : Bai2Code → CodeAnswer
code_meant r = record { listed = r.listed; status = r.status; summary = r.summary; detail = r.detail; side = r.side }
