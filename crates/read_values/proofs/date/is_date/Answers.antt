-- `is_date`: a date is found where the rules have one. Assumes nothing.
use borrow.Author.Rules.{rules}
use Rattle.read_values.proofs.DateLaws.{found-date}
use Rattle.read_values.proofs.date.is_date.Goals as goal

pub returns : goal.returns
returns c = search (rules, found-date c.args.f.now)
