-- A part found within a part: its place counted from the file's start, its refusal as it is; and the slice that an answer names. Assumes nothing.
use Prim.Native.Nat.{ℕ, zero, suc, ◌+◌, ◌≤◌}
use native.Mathlib.Omega.{arith}
use mathlib.Core.Path.{◌≡◌, refl, sym, ap, subst, ◌∙◌}
use mathlib.Core.List.{List, [], ◌∷◌}
use lib.ListN.{length, take, drop, length-take, length-drop}
use Rattle.rules.specs.Bytes.{Bytes}
use Rattle.rules.specs.Outcome.{not_refused, refusal_of, number_of, Outcome, refused, fine, ◌>>=◌}
use Rattle.rules.specs.Lines.{Code, Record, record_bytes, file_records}
use Rattle.rules.specs.Parts.{cut_at, Placed, Parts, part_from, part_in, part_bytes, size_of_all}
use Rattle.rules.specs.Answers.{PartAnswer, part_answer}
use Rattle.rules.proofs.Binds.{refused-fine}
use Rattle.std.specs.Prelude.{eqb, Result, Ok, Err}
use Rattle.std.specs.Result.{result_err}
use Rattle.std.proofs.lemmas.Bool.{false≢true}
use Rattle.base_refusals.specs.declared.Refusal.{Refusal}
use Rattle.base_refusals.specs.RefusalMeaning.{reason_number}
use Rattle.base_refusals.proofs.RefusalsBack.{not_numbered_0}
use Rattle.part_groups.specs.PartMeaning.{part_meant, refusal_told, bytes_at}
use Rattle.part_groups.specs.declared.Part.{Part}
use Rattle.part_groups.specs.PartsEnclosed.{Envelope, Finds, Stands, Numbered, Outer}

-- ---- places counted from p bytes before

unfoldable shifted : ℕ → Outcome Placed → Outcome Placed
shifted p (refused why) = refused why
shifted p (fine x) = fine (record { place = p + x.place; records = x.records })

from-shifted : (p q : ℕ) (ps : List (List Record)) (i : ℕ) → part_from (p + q) ps i ≡ shifted p (part_from q ps i)
unfolding part_from shifted
from-shifted p q [] i = refl
from-shifted p q (r ∷ ps) zero = refl
from-shifted p q (r ∷ ps) (suc i) =
    let z : p + q + size_of_all r ≡ p + (q + size_of_all r) = omega arith in
    ap (λ (k : ℕ). part_from k ps i) z ∙ from-shifted p (q + size_of_all r) ps i

in-shifted : (p : ℕ) (x : Parts) (i : ℕ) → part_in p x i ≡ shifted p (part_in 0 x i)
unfolding part_in
in-shifted p x i =
    let z : p + size_of_all x.waiting ≡ p + (0 + size_of_all x.waiting) = omega arith in
    ap (λ (k : ℕ). part_from k x.parts i) z ∙ from-shifted p (0 + size_of_all x.waiting) x.parts i

-- ---- refusals are by numbers that aren't 0

from-refuses : (p : ℕ) (ps : List (List Record)) (i : ℕ) → Numbered (part_from p ps i)
unfolding part_from
from-refuses p [] i why h = let z : 17 ≡ why.number = ap number_of h in omega arith
from-refuses p (r ∷ ps) zero why h = absurd (refused-fine why (record { place = p; records = r }) (sym h))
from-refuses p (r ∷ ps) (suc i) why h = from-refuses (p + size_of_all r) ps i why h

pub in-refuses : (p : ℕ) (x : Parts) (i : ℕ) → Numbered (part_in p x i)
unfolding part_in
in-refuses p x i = from-refuses (p + size_of_all x.waiting) x.parts i

pub bind-refuses : {A : Type 0} (o : Outcome A) (f : A → Outcome Placed) → Numbered o → ((x : A) → Numbered (f x)) → Numbered (o >>= f)
bind-refuses (refused why) f h g w e = let z : why.number ≡ w.number = ap number_of e in omega (arith, h why refl)
bind-refuses (fine x) f h g w e = g x w e

-- no reason has the number 0
pub some_number : (why : Refusal) → ¬ (reason_number why.reason ≡ 0)
some_number why e = absurd (false≢true (sym (not_numbered_0 why.reason) ∙ ap (λ (n : ℕ). eqb n 0) e))

-- ---- the answer within

-- the outer part was refused
pub same-refusal : (why : Refusal) (o : Outcome Placed) (f : Placed → Outcome Placed) → part_meant (Err why) ≡ part_answer o → part_meant (Err why) ≡ part_answer (o >>= f)
unfolding part_answer part_bytes
same-refusal why (refused w) f e = e
same-refusal why (fine x) f e = absurd (some_number why (ap (λ (a : PartAnswer). a.refusal.number) e))

-- the inner part was refused
shifted-refusal : (p : ℕ) (q : PartAnswer) (o : Outcome Placed) → q ≡ part_answer o → ¬ (q.refusal.number ≡ 0) → q ≡ part_answer (shifted p o)
unfolding part_answer part_bytes shifted
shifted-refusal p q (refused why) e h = e
shifted-refusal p q (fine x) e h = absurd (h (ap (λ (a : PartAnswer). a.refusal.number) e))

-- it was found
shifted-found : (p : ℕ) (q : PartAnswer) (o : Outcome Placed) → Numbered o → q ≡ part_answer o → q.refusal.number ≡ 0
    → record { refusal = not_refused; start = p + q.start; len = q.len } ≡ part_answer (shifted p o)
unfolding part_answer part_bytes shifted
shifted-found p q (refused why) r e z = let m : q.refusal.number ≡ why.number = ap (λ (a : PartAnswer). a.refusal.number) e in let y = r why refl in absurd (omega arith)
shifted-found p q (fine x) r e z = rw e

module _ (c d : Code) (file : Bytes) (n : ℕ) (outer : PartAnswer) (inner : PartAnswer) (zero_number : outer.refusal.number ≡ 0)
    (f : Finds c d (take outer.len (drop outer.start file)) n inner) where
  abbrev slice : Bytes
  slice = take outer.len (drop outer.start file)

  -- the inner part ends within the outer
  pub inner-fits : outer.start + outer.len ≤ length file → outer.start + (inner.start + inner.len) ≤ length file
  inner-fits h = omega (arith, f.inside, length-take outer.len (drop outer.start file), length-drop outer.start file)

  module _ (x : Placed) (e : outer ≡ part_answer (fine x)) (s : Stands c d file x) where
    starts : outer.start ≡ x.place
    unfolding part_answer
    starts = ap (λ (a : PartAnswer). a.start) e

    slice_is : slice ≡ record_bytes x.records
    unfolding part_answer part_bytes
    slice_is =
        let size : outer.len ≡ length (record_bytes x.records) = ap (λ (a : PartAnswer). a.len) e in
        rw (size, starts) s.slice

    reads : file_records slice ≡ x.records
    reads = ap file_records slice_is ∙ s.alone

    inner-is : inner ≡ part_answer (part_in 0 (cut_at c d x.records) n)
    inner-is = f.found (subst (Envelope c d) (sym reads) s.envelope) ∙ ap (λ (rs : List Record). part_answer (part_in 0 (cut_at c d rs) n)) reads

    moved-is : part_answer (shifted outer.start (part_in 0 (cut_at c d x.records) n)) ≡ part_answer (part_in x.place (cut_at c d x.records) n)
    moved-is = ap part_answer (ap (λ (k : ℕ). shifted k (part_in 0 (cut_at c d x.records) n)) starts ∙ sym (in-shifted x.place (cut_at c d x.records) n))

  -- what each part of an outcome says, the outcome itself says where its number is 0
  by-outcome : (r : PartAnswer) (o : Outcome Placed) → outer ≡ part_answer o → Outer c d file o
      → ((x : Placed) → outer ≡ part_answer (fine x) → Stands c d file x → r ≡ part_answer (part_in x.place (cut_at c d x.records) n))
      → r ≡ part_answer (o >>= λ x. part_in x.place (cut_at c d x.records) n)
  unfolding part_answer
  by-outcome r (refused why) e u g = let z : outer.refusal.number ≡ why.number = ap (λ (a : PartAnswer). a.refusal.number) e in let y = u.refuses why refl in absurd (omega arith)
  by-outcome r (fine x) e u g = g x e (u.stands x refl)

  pub inner-refused : ¬ (inner.refusal.number ≡ 0) → (o : Outcome Placed) → outer ≡ part_answer o → Outer c d file o → inner ≡ part_answer (o >>= λ x. part_in x.place (cut_at c d x.records) n)
  inner-refused h o e u =
      by-outcome inner o e u (λ x is s. shifted-refusal outer.start inner (part_in 0 (cut_at c d x.records) n) (inner-is x is s) h ∙ moved-is x is s)

  pub inner-found : inner.refusal.number ≡ 0 → (o : Outcome Placed) → outer ≡ part_answer o → Outer c d file o
      → record { refusal = not_refused; start = outer.start + inner.start; len = inner.len } ≡ part_answer (o >>= λ x. part_in x.place (cut_at c d x.records) n)
  inner-found h o e u =
      by-outcome _ o e u (λ x is s.
      shifted-found outer.start inner (part_in 0 (cut_at c d x.records) n) (in-refuses 0 (cut_at c d x.records) n) (inner-is x is s) h ∙ moved-is x is s)

-- ---- the slice that an answer names

pub named-slice : (file : Bytes) (o : Outcome Placed) (q : PartAnswer) → q ≡ part_answer o
    → ((x : Placed) → o ≡ fine x → take (length (record_bytes x.records)) (drop x.place file) ≡ record_bytes x.records)
    → bytes_at file q ≡ part_bytes o
unfolding part_answer part_bytes
named-slice file (refused why) q e s = rw (ap (λ (a : PartAnswer). a.len) e)
named-slice file (fine x) q e s = rw (ap (λ (a : PartAnswer). a.len) e, ap (λ (a : PartAnswer). a.start) e) (s x refl)

-- ---- why there is no part

pub refusal_of-part : (r : Result Part Refusal) (o : Outcome Placed) → part_meant r ≡ part_answer o → refusal_told (result_err r) ≡ refusal_of o
unfolding part_answer
refusal_of-part (Ok p) o e = ap (λ (a : PartAnswer). a.refusal) e
refusal_of-part (Err why) o e = ap (λ (a : PartAnswer). a.refusal) e
