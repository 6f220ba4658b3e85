-- What the code's answer on a field says of it. Assumes nothing.
use Rattle.std.specs.Prelude.{Result, Ok, Err}
use Rattle.base_refusals.specs.declared.Reason.{Reason}
use Rattle.base_refusals.specs.RefusalMeaning.{reason_number}
use Rattle.rules.specs.Grammar.{Judged, bad, good}
use Rattle.read_wanted.specs.Wants.{wanted_of}
use Rattle.read_wanted.specs.declared.want.Want.{Want}

-- refused by a reason, or good with these kinds wanted next: the answer of `take_next` (rules/specs/Grammar.antt), which each contract equals
unfoldable pub judged_of : Result Want Reason → Judged
judged_of (Ok w) = good (wanted_of w)
judged_of (Err r) = bad (reason_number r)
