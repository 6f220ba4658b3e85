-- What the search finds in a 98 that is read as one is what the rules read there. Assumes nothing.
use mathlib.Core.Path.{◌≡◌, sym, ap}
use mathlib.Core.List.{List}
use Rattle.rules.specs.Numbers.{number}
use Rattle.rules.specs.Amounts.{amount_in, amount_adds}
use Rattle.rules.specs.Outcome.{fine}
use Rattle.rules.specs.Lines.{group_trailer, Record}
use Rattle.rules.specs.Grammar.{total, records}
use Rattle.rules.specs.Records.{Field, the, walk_record}
use Rattle.find_field.specs.FieldSearch.{Found}
use Rattle.find_field.proofs.SearchAgrees.{found-is}
use Rattle.join_groups.specs.StatedNumbers.{stated_total, stated_records}

module _ (r : Record) (fs : List Field) (walked : walk_record group_trailer r ≡ fine fs) where
  pub stated-total : stated_total r ≡ amount_adds (amount_in (the total fs).bytes)
  stated-total = ap (λ (x : Found). amount_adds (amount_in x.bytes)) (sym (found-is total group_trailer r fs walked))

  pub stated-records : stated_records r ≡ number (the records fs).bytes
  stated-records = ap (λ (x : Found). number x.bytes) (sym (found-is records group_trailer r fs walked))
