-- A 99 by its three numbers is the rules' fresh 99. Assumes nothing.
use Prim.Native.Nat.{◌+◌}
use mathlib.Core.Path.{◌≡◌}
use mathlib.Core.List.{append_assoc}
use Rattle.rules.specs.Totals.{Summary}
use Rattle.rules.specs.Combine.{fresh_trailer}
use Rattle.join_trailer.specs.FreshTrailer.{last_line}

pub is-fresh : (s : Summary) → last_line s.sum s.groups (s.records + 1) ≡ fresh_trailer s
unfolding last_line fresh_trailer
is-fresh s = simp append_assoc
