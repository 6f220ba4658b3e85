-- `join_split::Asked::fits` meets its contract. Assumes nothing.
use native.Mathlib.Omega.{arith}
use lib.ListN.{length}
use Rattle.join_split.specs.SplitAnswers.{split_result}
use Rattle.join_trailer.proofs.FitsLaws.{has-room}
use Rattle.join_split.proofs.NameLaws.{header-opens}
use Rattle.join_split.proofs.SplitLaws.{result-most}
use Rattle.join_split.proofs.Asked.fits.Goals as goal

pub returns-then-most-le-LONGEST_FILE : goal.returns-then-most-le-LONGEST_FILE
returns-then-most-le-LONGEST_FILE c =
    let a = c.args.self.now in
    let most = result-most a.name.now a.file.now a.header (header-opens a.file.now a.header a.opens) in
    has-room (length (split_result a.name.now a.file.now)) c.args.room (omega (arith, most)) (omega (arith, most))
