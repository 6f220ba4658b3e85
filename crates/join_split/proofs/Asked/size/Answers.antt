-- `join_split::Asked::size` meets its contract. Assumes nothing.
use Prim.Native.Nat.{ℕ, ◌+◌, ◌≤◌}
use native.Mathlib.Omega.{arith}
use mathlib.Core.Path.{◌≡◌}
use lib.ListN.{length}
use Rattle.rules.specs.Bytes.{Bytes}
use Rattle.join_groups.proofs.GroupOpens.{Opened}
use Rattle.join_split.specs.SplitAnswers.{split_result, split_last, RestIs}
use Rattle.join_trailer.specs.declared.Trailer.{Trailer}
use Rattle.join_trailer.proofs.FitsLaws.{front-size}
use Rattle.join_split.proofs.NameLaws.{header-opens}
use Rattle.join_split.proofs.SplitLaws.{result-size, result-most}
use Rattle.join_split.proofs.Asked.size.Goals as goal

-- what is taken adds up to the split, which is not long
sizes : (name file before : Bytes) (h bytes : ℕ) (last : Trailer) (after : Bytes) → Opened file h → RestIs name file before bytes last after
    → ((h + bytes) + last.length ≡ length (split_result name file)) × (length (split_result name file) ≤ 16777216 + 64)
sizes name file before h bytes last after o rest =
    let long = front-size (split_last name file) last.bytes last.length rest.is_last (omega (arith, rest.last-most)) in
    (omega (arith, rest.count, long, result-size name file h o), omega (arith, result-most name file h o, o.not-too-long))

pub overflow_add-result : goal.overflow_add-result
overflow_add-result c =
    let a = c.args.self.now in
    omega (arith, sizes _ _ _ _ _ _ _ (header-opens a.file.now a.header a.opens) c.take_rest-rest.ensures)

pub overflow_add-result-2 : goal.overflow_add-result-2
overflow_add-result-2 c =
    let a = c.args.self.now in
    omega (arith, sizes _ _ _ _ _ _ _ (header-opens a.file.now a.header a.opens) c.take_rest-rest.ensures)

pub returns : goal.returns
returns c =
    let a = c.args.self.now in
    (sizes _ _ _ _ _ _ _ (header-opens a.file.now a.header a.opens) c.take_rest-rest.ensures).0
