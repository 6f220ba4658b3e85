-- `take_pair_count`: the number of pairs is the one that its digits stand for. Assumes nothing.
use native.Mathlib.Omega.{arith}
use Rattle.std.proofs.Common.{rules}
use Rattle.base_digits.proofs.ReadingLaws.{value-is}
use Rattle.rules.specs.Grammar.{and_then, judged, pairs_of}
use Rattle.read_wanted.specs.TakenMeaning.{judged_of}
use Rattle.read_wanted.proofs.take_pair_count.Goals as goal

pub returns-then-n-lt1 : goal.returns-then-n-lt1
unfolding judged_of and_then judged pairs_of
returns-then-n-lt1 c =
    let e = value-is 1 3 c.args.f.now (search rules) (omega arith) in
    grind arith

pub returns : goal.returns
unfolding judged_of and_then judged pairs_of
returns c =
    let e = value-is 1 3 c.args.f.now (search rules) (omega arith) in
    grind arith
