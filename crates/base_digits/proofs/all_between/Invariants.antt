-- What the loop of `all_between` keeps: the bytes that are left decide. Assumes nothing.
use Rattle.std.proofs.Common.{◌≡◌, drop}
use Rattle.rules.specs.Bytes.{all, between}
use Rattle.base_digits.proofs.all_between.Given as goal

abbrev pub invariant-loop-b : goal.invariant-loop-b
invariant-loop-b l = all (between l.lo l.hi) (drop l.b-index l.s) ≡ all (between l.lo l.hi) l.s
