-- What split and combine answer C, in the rules' terms: the same numbers, figure by figure; where refused, every figure but number and place is 0, and combine's file.
-- Assumes nothing.
use Rattle.rules.specs.Bytes.{Bytes}
use Rattle.rules.specs.Combine as combine
use Rattle.c_joining.specs.declared.Bai2Answer.{Bai2Answer}
use Rattle.c_joining.specs.declared.Bai2Combined.{Bai2Combined}

-- an answer of split, with what the output slice holds
abbrev pub split_meant : Bai2Answer → Bytes → combine.Answer
split_meant r out = record { refusal = record { number = r.number; place = r.place }; which = 0; len = r.length; output = out }

-- an answer of combine, likewise
abbrev pub combine_meant : Bai2Combined → Bytes → combine.Answer
combine_meant r out = record { refusal = record { number = r.number; place = r.place }; which = r.file; len = r.length; output = out }
