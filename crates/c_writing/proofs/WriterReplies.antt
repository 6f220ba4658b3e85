-- A call of the writer for C answers as the rules say, from what its callees promise. Assumes nothing.
use mathlib.Core.Path.{◌≡◌, sym, ap}
use mathlib.Core.List.{[]}
use Rattle.rules.specs.Bytes.{Bytes}
use Rattle.rules.specs.Writer as rules
use Rattle.rules.specs.Writer.{Call, write}
use Rattle.write_state.specs.WriterMeaning.{writer_meant, written_meant}
use Rattle.write_state.specs.declared.Writer.{Writer}
use Rattle.write_state.specs.declared.Written.{Written}
use Rattle.base_refusals.specs.declared.Refusal.{Refusal}
use Rattle.std.specs.Prelude.{Result, Ok, Err}
use Rattle.c_writer.specs.WriterFigures.{state_of, numbers_after, answer_of, replied, reply_to}
use Rattle.c_writer.specs.declared.Bai2Writer.{Bai2Writer}
use Rattle.c_writer.specs.declared.Bai2Written.{Bai2Written}

-- the reply, from what the state, the writer's call and the answer promise
pub replies : (w : Bai2Writer) (s : Writer) (r : Result Written Refusal) (a : Bai2Written) (call : Call) (before out : Bytes) → writer_meant s ≡ state_of w
    → written_meant s r out ≡ write (writer_meant s) call before → ((s : Writer) → a ≡ answer_of w (written_meant s r [])) → replied a out ≡ reply_to w call before
unfolding reply_to numbers_after
replies w s (Ok r) a call before out e h f = rw (f s, sym (ap (λ (x : rules.Writer). write x call before) e), sym h)
replies w s (Err why) a call before out e h f = rw (f s, sym (ap (λ (x : rules.Writer). write x call before) e), sym h)

-- the same of a call that is the same
pub replies_as : (w : Bai2Writer) (s : Writer) (r : Result Written Refusal) (a : Bai2Written) (given call : Call) (before out : Bytes) → given ≡ call → writer_meant s ≡ state_of w
    → written_meant s r out ≡ write (writer_meant s) given before → ((s : Writer) → a ≡ answer_of w (written_meant s r [])) → replied a out ≡ reply_to w call before
replies_as w s r a given call before out same e h f = rw (← same) (replies w s r a given before out e h f)
