-- What the loop of `digit_count` keeps: what is counted, with the digits of what is left, is one more than the digits of n. Assumes nothing.
use Rattle.std.proofs.Common.{◌≡◌, ◌+◌, ◌≤◌, length}
use Rattle.rules.specs.Numbers.{decimal}
use Rattle.base_numerals.proofs.digit_count.Given as goal

abbrev pub invariant-loop-m : goal.invariant-loop-m
invariant-loop-m l = (l.k + length (decimal l.m) ≡ length (decimal l.n) + 1) × (length (decimal l.n) ≤ 20)

abbrev pub decreases-loop-m : goal.decreases-loop-m
decreases-loop-m l = l.m
