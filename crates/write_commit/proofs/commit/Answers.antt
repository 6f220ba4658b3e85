-- Answers for `commit`: refusal by refusal, or the line put. Assumes nothing.
use Prim.Native.Nat.{◌+◌}
use native.Mathlib.Omega.{arith}
use Rattle.std.proofs.lemmas.Result.{err_from_is_err_and}
use Rattle.std.proofs.Common.{Bool, rules, refl, sym, length}
use Rattle.rules.specs.Bytes.{Bytes}
use Rattle.base_codes.specs.CodeMeaning.{code_meant}
use Rattle.base_codes.specs.declared.Code.{Code}
use Rattle.base_quantities.specs.QuantityMeanings.{sum_meant}
use Rattle.base_quantities.specs.declared.Units.{Units}
use Rattle.write_line.specs.DraftMeaning.{draft_of}
use Rattle.write_line.specs.declared.Draft.{Draft}
use Rattle.write_state.specs.WriterMeaning.{writer_meant}
use Rattle.write_state.specs.declared.Writer.{Writer}
use Rattle.write_commit.proofs.CommitLaws.{draft-refused, draft-good, room-there, Asked, out-of-turn, no-draft, held_back, goes_in, refuses, writes}
use Rattle.write_commit.proofs.commit.Goals as goal

-- the arguments in the rules' terms
abbrev given : Writer → Code → Draft → Units → Bool → Bytes → Asked
given w code line sum items out =
    record { writer = writer_meant w; code = code_meant code; draft = draft_of line; sum = sum_meant sum; items = items; room = length out }

pub returns-then-not-is_sound : goal.returns-then-not-is_sound
returns-then-not-is_sound c =
    let a = given c.args.w c.args.code c.args.line.now c.args.sum c.args.items c.args.out.now in
    refuses c.args.w c.nowhere.result (rw c.nowhere.ensures (out-of-turn a (search rules)))

pub returns-then-is_err : goal.returns-then-is_err
returns-then-is_err c =
    let a = given c.args.w c.args.code c.args.line.now c.args.sum c.args.items c.args.out.now in
    refuses c.args.w c.nowhere-then-is_err.result
    (rw c.nowhere-then-is_err.ensures (no-draft a (search rules) (search rules) (draft-refused c.args.line.now (search rules))))

pub returns-in_err-line_fits : goal.returns-in_err-line_fits
returns-in_err-line_fits c =
    let a = given c.args.w c.args.code c.args.line.now c.args.sum c.args.items c.args.out.now in
    let p = err_from_is_err_and c.from_residual.result c.from_residual.ensures.1 in
    rw (p.1, p.2)
    (refuses c.args.w _
    (held_back a (search rules) (search rules) _ (draft-good c.args.line.now c.front-body.result.now (search rules) c.front-body.ensures)
    (sym (rw c.in_err-line_fits.was at c.line_fits.ensures))))

pub overflow_add-out : goal.overflow_add-out
overflow_add-out c =
    let r = room-there (writer_meant c.args.w) (sum_meant c.args.sum) (length c.front-body.result.now + 1) (length c.args.out.now) c.in_ok-line_fits.was c.line_fits.ensures in
    omega arith

pub bounds-out-size : goal.bounds-out-size
bounds-out-size c =
    let r = room-there (writer_meant c.args.w) (sum_meant c.args.sum) (length c.front-body.result.now + 1) (length c.args.out.now) c.in_ok-line_fits.was c.line_fits.ensures in
    omega arith

pub overflow_add-result : goal.overflow_add-result
overflow_add-result c =
    let r = room-there (writer_meant c.args.w) (sum_meant c.args.sum) (length c.front-body.result.now + 1) (length c.args.out.now) c.in_ok-line_fits.was c.line_fits.ensures in
    omega arith

pub after_line-requires : goal.after_line-requires
after_line-requires c =
    let r = room-there (writer_meant c.args.w) (sum_meant c.args.sum) (length c.front-body.result.now + 1) (length c.args.out.now) c.in_ok-line_fits.was c.line_fits.ensures in
    (search rules, omega arith, r.size)

pub returns : goal.returns
returns c =
    let a = given c.args.w c.args.code c.args.line.now c.args.sum c.args.items c.args.out.now in
    let r = room-there (writer_meant c.args.w) (sum_meant c.args.sum) (length c.front-body.result.now + 1) (length c.args.out.now) c.in_ok-line_fits.was c.line_fits.ensures in
    writes c.args.w c.args.out.now c.after_line.result c.front-body.result.now
    (goes_in a (search rules) (search rules) _ (draft-good c.args.line.now c.front-body.result.now (search rules) c.front-body.ensures) r.is) c.after_line.ensures refl r.room
    c.put_at.ensures
