-- Three numbers put into a slice, as long as they find room; and the length that is handed out of a field. Assumes nothing.
use Prim.Native.Nat.{ℕ, suc, ◌+◌, ◌≤◌, ◌<◌}
use native.Mathlib.Omega.{arith}
use mathlib.Core.Path.{◌≡◌, refl, sym, ap, ◌∙◌}
use mathlib.Core.Bool.{cond, ◌&&◌}
use mathlib.Core.List.{List, [], ◌∷◌, ◌++◌, append_assoc}
use borrow.Author.Tests.{leb-true, leb-false}
use lib.Dec.{eqb, leb}
use lib.ListN.{length, take, drop, get_or, take-append-drop, length-append, length-drop}
use lib.Seq.{take_at, drop_at, drop-cons, length-take-le}
use Rattle.rules.specs.Bytes.{Bytes, slash, just}
use Rattle.rules.specs.Grammar.{Kind, kind_number, next_kind}
use Rattle.rules.specs.HandedOut.{handed_length}
use Rattle.rules.proofs.Tests.{Known, holds, fails, known}
use Rattle.find_next.specs.FieldTrace.{field_at}
use Rattle.find_walk.specs.WalkEnds.{put_threes, PutsThree}

-- ---- with room for less than three nothing is put

short : (ns out : List ℕ) → length out < 3 → put_threes ns out ≡ out
unfolding put_threes
short [] out h = refl
short (k ∷ []) out h = refl
short (k ∷ p ∷ []) out h = refl
short (k ∷ p ∷ l ∷ ns) [] h = refl
short (k ∷ p ∷ l ∷ ns) (a ∷ []) h = refl
short (k ∷ p ∷ l ∷ ns) (a ∷ b ∷ []) h = refl
short (k ∷ p ∷ l ∷ ns) (a ∷ b ∷ c ∷ out) h = absurd (omega arith)

-- ---- the slice, of which the first `at` numbers stand, with what is still to be put

abbrev pub onto : List ℕ → ℕ → List ℕ → List ℕ
onto ns at out = take at out ++ put_threes ns (drop at out)

pub onto-end : (at : ℕ) (out : List ℕ) → onto [] at out ≡ out
unfolding put_threes
onto-end at out = take-append-drop at out

-- three numbers are put, or find no room
module _ (k p l : ℕ) (ns out : List ℕ) (at : ℕ) where
  abbrev front : List ℕ
  front = take at out

  abbrev back : List ℕ
  back = drop (at + 3) out

  module _ (room : at + 3 ≤ length out) where
    three-there : drop at out ≡ get_or out at 0 ∷ get_or out (suc at) 0 ∷ get_or out (suc (suc at)) 0 ∷ back
    three-there =
        let z : suc (suc (suc at)) ≡ at + 3 = omega arith in
        drop-cons out at 0 (omega arith)
        ∙ ap (λ (xs : List ℕ). get_or out at 0 ∷ xs) (drop-cons out (suc at) 0 (omega arith)
        ∙ ap (λ (xs : List ℕ). get_or out (suc at) 0 ∷ xs) (drop-cons out (suc (suc at)) 0 (omega arith)))
        ∙ ap (λ (n : ℕ). get_or out at 0 ∷ get_or out (suc at) 0 ∷ get_or out (suc (suc at)) 0 ∷ drop n out) z

    abbrev put : List ℕ
    put = front ++ (k ∷ p ∷ l ∷ back)

    three : put ≡ (front ++ (k ∷ p ∷ l ∷ [])) ++ back
    three = sym (append_assoc front (k ∷ p ∷ l ∷ []) back)

    front-size : length (front ++ (k ∷ p ∷ l ∷ [])) ≡ at + 3
    front-size = length-append front (k ∷ p ∷ l ∷ []) ∙ (let z = length-take-le at out (omega arith) in omega arith)

    pub put-size : length put ≡ length out
    put-size = length-append front (k ∷ p ∷ l ∷ back) ∙ (let z = length-take-le at out (omega arith) in let y = length-drop (at + 3) out in omega arith)

    onto-put : onto (k ∷ p ∷ l ∷ ns) at out ≡ onto ns (at + 3) put
    unfolding put_threes
    onto-put =
        let taken : take (at + 3) put ≡ front ++ (k ∷ p ∷ l ∷ []) = ap (λ (xs : List ℕ). take (at + 3) xs) three ∙ take_at (front ++ (k ∷ p ∷ l ∷ [])) back (at + 3) front-size in
        let dropped : drop (at + 3) put ≡ back = ap (λ (xs : List ℕ). drop (at + 3) xs) three ∙ drop_at (front ++ (k ∷ p ∷ l ∷ [])) back (at + 3) front-size in
        rw (three-there, taken, dropped) (sym (append_assoc front (k ∷ p ∷ l ∷ []) (put_threes ns back)))

  onto-full : length out < at + 3 → onto (k ∷ p ∷ l ∷ ns) at out ≡ onto ns at out
  onto-full h =
      let s : length (drop at out) < 3 = omega (arith, length-drop at out) in
      ap (λ (xs : List ℕ). front ++ xs) (short (k ∷ p ∷ l ∷ ns) (drop at out) s ∙ sym (short ns (drop at out) s))

-- either way: as long as before, the next place in it, and what is still to be put
pub record PutOn (k p l : ℕ) (ns : List ℕ) (at : ℕ) (out now : List ℕ) (r : ℕ) : Type 0 where
  pub long : length now ≡ length out
  pub within : r ≤ length now
  pub still : onto (k ∷ p ∷ l ∷ ns) at out ≡ onto ns r now

pub put_on : (k p l : ℕ) (ns : List ℕ) (at : ℕ) (out now : List ℕ) (r : ℕ) → at ≤ length out → PutsThree at k p l out now r → PutOn k p l ns at out now r
put_on k p l ns at out now r low t = by-room (known (leb (at + 3) (length out)))
  where
    by-room : Known (leb (at + 3) (length out)) → PutOn k p l ns at out now r
    by-room (holds e) =
        let room = leb-true (at + 3) (length out) e in
        let z = t.put room in
        let size : length now ≡ length out = ap length z.0 ∙ put-size k p l ns out at room in
        record { long = size; within = omega (arith, z.1); still = onto-put k p l ns out at room ∙ rw (← z.0, ← z.1) }
    by-room (fails e) =
        let room = leb-false (at + 3) (length out) e in
        let z = t.full room in
        record { long = ap length z.0; within = rw (z.0, z.1) low; still = onto-full k p l ns out at room ∙ rw (← z.0, ← z.1) }

-- ---- the length that is handed out

pub shown-is : (ks : List Kind) (p : ℕ) (bs : Bytes) (kind : ℕ) → kind ≡ kind_number (next_kind ks) → cond (eqb 21 kind && just slash bs) 0 (length bs) ≡ handed_length (field_at ks p bs)
unfolding handed_length
shown-is ks p bs kind q = rw q
