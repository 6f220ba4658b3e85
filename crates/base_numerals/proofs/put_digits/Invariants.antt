-- What the loop of `put_digits` keeps: the digits of m are still to be put, before place i. Assumes nothing.
use Rattle.base_numerals.proofs.PutLaws.{Left}
use Rattle.base_numerals.proofs.put_digits.Given as goal

abbrev pub invariant-loop-i : goal.invariant-loop-i
invariant-loop-i l = Left l.n l.initial.out l.out l.m l.i
