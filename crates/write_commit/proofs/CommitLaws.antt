-- A drafted line committed: each refusal, and the line written. Assumes nothing.
use mathlib.Core.Path.{◌≡◌, refl, sym, ap, ◌∙◌}
use mathlib.Core.Bool.{Bool, true, false, cond, ◌&&◌, false≢true}
use mathlib.Core.List.{List, [], ◌∷◌, ◌++◌}
use Prim.Native.Nat.{ℕ, ◌+◌, ◌≤◌}
use native.Mathlib.Omega.{arith}
use lib.Dec.{leb}
use lib.ListN.{length, take, set}
use borrow.Author.Tests.{leb-true, le-leb}
use Rattle.rules.specs.Bytes.{Bytes, LF}
use Rattle.rules.specs.Numbers.{Sum, ◌⊕◌, magnitudes}
use Rattle.rules.specs.Limits.{most, longest_file}
use Rattle.rules.specs.Outcome.{Outcome, refuse, refused, fine}
use Rattle.rules.specs.Outcome as outcomes
use Rattle.rules.specs.Lines.{Code}
use Rattle.rules.specs.Grammar.{Kind}
use Rattle.rules.specs.Writer as rules
use Rattle.rules.specs.Writer.{sound, in_turn, placed, Entry, written_by}
use Rattle.rules.proofs.Tests.{Known, holds, fails, known}
use Rattle.laws_writer.proofs.Placing.{placed-more}
use Rattle.read_wanted.specs.Wants.{wanted_of}
use Rattle.read_wanted.specs.TakenMeaning.{judged_of}
use Rattle.base_refusals.specs.declared.Reason.{Reason}
use Rattle.read_wanted.specs.declared.want.Want.{Want}
use Rattle.base_refusals.specs.RefusalMeaning.{refusal_meant, outcome_of}
use Rattle.base_refusals.specs.declared.Refusal.{Refusal}
use Rattle.std.specs.Prelude.{Result, Ok, Err, is_err, is_none}
use Rattle.rules.specs.Combine.{has_room}
use Rattle.base_quantities.specs.QuantityMeanings.{units_within}
use Rattle.write_line.specs.declared.Draft.{Draft}
use Rattle.write_line.specs.DraftMeaning.{Sofar, draft_of}
use Rattle.write_state.specs.WriterMeaning.{writer_meant, written_meant}
use Rattle.write_state.specs.declared.Writer.{Writer}
use Rattle.write_commit.specs.Commit.{state_after, room_for, committed}

-- ---- the draft

abbrev pub kinds_of : Result Want Reason → List Kind
kinds_of (Ok want) = wanted_of want
kinds_of (Err why) = []

module _ (d : Draft) where
  pub draft-refused : is_err d.taken ≡ true → draft_of d ≡ refuse 20 0
  unfolding draft_of judged_of
  draft-refused h = by-taken d.taken refl h
    where
      by-taken : (r : Result Want Reason) → d.taken ≡ r → is_err r ≡ true → draft_of d ≡ refuse 20 0
      by-taken (Ok want) e z = absurd (false≢true z)
      by-taken (Err why) e z = rw e

  pub draft-good : (body : Bytes) → is_err d.taken ≡ false → body ≡ take d.len d.line → draft_of d ≡ fine (record { kinds = kinds_of d.taken; bytes = body })
  unfolding draft_of judged_of
  draft-good body h b = by-taken d.taken refl h
    where
      by-taken : (r : Result Want Reason) → d.taken ≡ r → is_err r ≡ false → draft_of d ≡ fine (record { kinds = kinds_of d.taken; bytes = body })
      by-taken (Ok want) e z = rw (e, b)
      by-taken (Err why) e z = absurd (false≢true (sym z))

-- ---- room

not-fine : {why : outcomes.Refusal} → ◌≡◌ {A = Outcome (Unit {0})} (fine tt) (refused why) → ⊥
not-fine e = cc

-- 10, and then 18 and 15
pub room_is : (w : rules.Writer) (sum : Sum) (n room : ℕ)
    → room_for w sum n room ≡ cond (is_none (units_within (w.file.sum ⊕ sum))) (refuse 10 0) (has_room (w.size + n) room)
unfolding room_for units_within
room_is w sum n room = by-test (known (leb (magnitudes (w.file.sum ⊕ sum)) most))
  where
    by-test : Known (leb (magnitudes (w.file.sum ⊕ sum)) most) → room_for w sum n room ≡ cond (is_none (units_within (w.file.sum ⊕ sum))) (refuse 10 0) (has_room (w.size + n) room)
    by-test (holds e) = rw e
    by-test (fails e) = rw e

pub record HasRoom (w : rules.Writer) (s : Sum) (n r : ℕ) : Type 0 where
  pub is : room_for w s n r ≡ fine tt
  pub sum : magnitudes (w.file.sum ⊕ s) ≤ most
  pub size : w.size + n ≤ longest_file
  pub room : w.size + n ≤ r

module _ (w : rules.Writer) (sum : Sum) (n room : ℕ) where
  fits : fine tt ≡ room_for w sum n room → HasRoom w sum n room
  unfolding room_for
  fits h = by_tests (known (leb (magnitudes (w.file.sum ⊕ sum)) most)) (known (leb (w.size + n) longest_file)) (known (leb (w.size + n) room))
    where
      by_tests : Known (leb (magnitudes (w.file.sum ⊕ sum)) most) → Known (leb (w.size + n) longest_file) → Known (leb (w.size + n) room) → HasRoom w sum n room
      by_tests (fails a) b c = absurd (not-fine (rw a at h))
      by_tests (holds a) (fails b) c = absurd (not-fine (rw (a, b) at h))
      by_tests (holds a) (holds b) (fails c) = absurd (not-fine (rw (a, b, c) at h))
      by_tests (holds a) (holds b) (holds c) = record { is = sym h; sum = leb-true _ most a; size = leb-true _ longest_file b; room = leb-true _ room c }

  -- what `line_fits` answers says it
  pub room-there : {r : Result (Unit {0}) Refusal} {u : Unit {0}} → r ≡ Ok u → outcome_of (λ (u : Unit {0}). u) r ≡ room_for w sum n room → HasRoom w sum n room
  room-there e h = fits (rw e at h)

-- ---- the order of refusals

-- what a commit is given
pub record Asked : Type 0 where
  pub writer : rules.Writer
  pub code : Code
  pub draft : Outcome Sofar
  pub sum : Sum
  pub items : Bool
  pub room : ℕ

abbrev pub answer_to : Asked → Outcome Entry
answer_to a = committed a.writer a.code a.draft a.sum a.items a.room

abbrev pub turn_of : Asked → Bool
turn_of a = in_turn a.code a.writer.phase a.writer.items

module _ (a : Asked) where
  pub out-of-turn : (sound a.writer && turn_of a) ≡ false → answer_to a ≡ refuse 19 0
  unfolding committed
  out-of-turn e = rw e

  module _ (s : sound a.writer ≡ true) where
    module _ (t : turn_of a ≡ true) where
      pub no-draft : a.draft ≡ refuse 20 0 → answer_to a ≡ refuse 20 0
      unfolding committed
      no-draft e = rw (s, t, e)

      module _ (x : Sofar) (e : a.draft ≡ fine x) where
        pub held_back : {why : outcomes.Refusal} → room_for a.writer a.sum (length x.bytes + 1) a.room ≡ refused why → answer_to a ≡ refused why
        unfolding committed
        held_back h = rw (s, t, e, h)

        pub goes_in : room_for a.writer a.sum (length x.bytes + 1) a.room ≡ fine tt
            → answer_to a ≡ fine (record { line = x.bytes ++ (LF ∷ []); next = state_after a.writer a.code a.sum a.items (length x.bytes + 1) })
        unfolding committed
        goes_in h = rw (s, t, e, h)

-- ---- the answers

module _ (w : Writer) {o : Outcome Entry} where
  pub refuses : {out : Bytes} (why : Refusal) → o ≡ refused (refusal_meant why) → written_meant w (Err why) out ≡ written_by (writer_meant w) o out
  unfolding written_by
  refuses why h = rw h

  pub writes : (out : Bytes) (next : Writer) (body : Bytes) {state : rules.Writer} {now : Bytes} → o ≡ fine (record { line = body ++ (LF ∷ []); next = state }) → writer_meant next ≡ state
      → state.size ≡ w.size.0 + (length body + 1) → w.size.0 + (length body + 1) ≤ length out
      → now ≡ cond (leb (w.size.0 + length body) (length out)) (placed w.size.0 body out) out
      → written_meant w (Ok (record { length = w.size.0 + (length body + 1); writer = next })) (set now (w.size.0 + length body) 10)
      ≡ written_by (writer_meant w) o out
  unfolding written_by
  writes out next body {state} {now} e s size h p =
      let put : now ≡ placed w.size.0 body out = rw (le-leb (w.size.0 + length body) (length out) (omega arith)) at p in
      let whole : set now (w.size.0 + length body) 10 ≡ placed w.size.0 (body ++ (LF ∷ [])) out
      = ap (λ (bs : Bytes). set bs (w.size.0 + length body) 10) put ∙ placed-more w.size.0 body out 10 (omega arith) in
      rw (e, s, whole, size)
