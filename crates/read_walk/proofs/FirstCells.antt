-- The first cell of what is left of a line, by the length of the first field. Assumes nothing.
use Prim.Native.Nat.{ℕ, suc, ◌+◌, ◌≤◌, ◌<◌}
use mathlib.Core.Path.{◌≡◌, refl, ap, sym, ◌∙◌}
use mathlib.Core.List.{List, [], ◌∷◌, ◌++◌}
use mathlib.Core.Bool.{Bool, true, false, not, ◌&&◌, ◌||◌}
use native.Mathlib.Omega.{arith}
use lib.Dec.{T, eqb, ltb}
use lib.ListN.{length, take, drop, get_or, take-append-drop}
use lib.Seq.{drop-cons, take_all, length-take-le}
use borrow.Author.Tests.{eqb-true, eqb-false, ltb-true, ltb-false}
use Rattle.rules.specs.Bytes.{Bytes, comma, slash, all}
use Rattle.rules.specs.Cells.{Mark, at_comma, at_slash, at_line_end, Cell, cells_from}
use Rattle.rules.proofs.Tests.{Known, holds, fails, known, both}
use Rattle.rules.proofs.CellLaws.{plain_byte, cells-comma, cells-slash, cells-end}
use Rattle.read_field_ends.specs.FieldLengths.{until, is_mark, field_len}

-- ---- the bytes before the mark, and the mark

no-mark : (x y : Bool) → (x || y) ≡ false → T (not x && not y)
no-mark true y e = let z : ◌≡◌ {A = ℕ} 0 1 = cc in absurd (omega arith)
no-mark false true e = let z : ◌≡◌ {A = ℕ} 0 1 = cc in absurd (omega arith)
no-mark false false e = tt

plain_step : (b : ℕ) (bs : Bytes) → T (all plain_byte (take (field_len bs) bs)) → Known (is_mark b) → T (all plain_byte (take (field_len (b ∷ bs)) (b ∷ bs)))
unfolding until all
plain_step b bs ih (holds e) = rw e tt
plain_step b bs ih (fails e) = rw e (both (plain_byte b) (all plain_byte (take (field_len bs) bs)) (no-mark (eqb b comma) (eqb b slash) e) ih)

front-plain : (xs : Bytes) → T (all plain_byte (take (field_len xs) xs))
unfolding until all
front-plain [] = tt
front-plain (b ∷ bs) = plain_step b bs (front-plain bs) (known (is_mark b))

mark-step : (b : ℕ) (bs : Bytes) → (field_len bs < length bs → is_mark (get_or bs (field_len bs) 0) ≡ true) → Known (is_mark b)
    → field_len (b ∷ bs) < suc (length bs) → is_mark (get_or (b ∷ bs) (field_len (b ∷ bs)) 0) ≡ true
unfolding until
mark-step b bs ih (holds e) h = simp e
mark-step b bs ih (fails e) h = let z = simp e at h in simp e (ih (omega arith))

mark-is : (xs : Bytes) → field_len xs < length xs → is_mark (get_or xs (field_len xs) 0) ≡ true
unfolding until
mark-is [] h = absurd (omega arith)
mark-is (b ∷ bs) h = mark-step b bs (mark-is bs) (known (is_mark b)) h

length-step : (b : ℕ) (bs : Bytes) → field_len bs ≤ length bs → Known (is_mark b) → field_len (b ∷ bs) ≤ suc (length bs)
unfolding until
length-step b bs ih (holds e) = simp e (omega arith)
length-step b bs ih (fails e) = simp e (omega arith)

pub field_fits : (xs : Bytes) → field_len xs ≤ length xs
unfolding until
field_fits [] = omega arith
field_fits (b ∷ bs) = length-step b bs (field_fits bs) (known (is_mark b))

-- ---- the first cell

-- the line ends first
pub first-open : (p : ℕ) (xs : Bytes) → length xs ≤ field_len xs → cells_from p xs ≡ record { place = p; bytes = xs; mark = at_line_end; rest = xs } ∷ []
first-open p xs h = cells-end p xs (rw (take_all (field_len xs) xs h) at (front-plain xs))

-- a comma or slash ends it, n bytes on
module _ (xs : Bytes) (n : ℕ) (e : n ≡ field_len xs) (h : n < length xs) where
  split : take n xs ++ (get_or xs n 0 ∷ drop (suc n) xs) ≡ xs
  split = ap (λ (l : Bytes). take n xs ++ l) (sym (drop-cons xs n 0 h)) ∙ take-append-drop n xs

  with-mark : (b : ℕ) → get_or xs n 0 ≡ b → take n xs ++ (b ∷ drop (suc n) xs) ≡ xs
  with-mark b m = ap (λ (c : ℕ). take n xs ++ (c ∷ drop (suc n) xs)) (sym m) ∙ split

  plain : T (all plain_byte (take n xs))
  plain = rw e (front-plain xs)

  long : length (take n xs) ≡ n
  long = length-take-le n xs (omega arith)

  -- by the byte there: one that is no slash is a comma
  pub comma-there : (get_or xs n 0 ≡ slash → ⊥) → get_or xs n 0 ≡ comma
  comma-there m = go (known (eqb (get_or xs n 0) comma)) (known (eqb (get_or xs n 0) slash))
    where
      go : Known (eqb (get_or xs n 0) comma) → Known (eqb (get_or xs n 0) slash) → get_or xs n 0 ≡ comma
      go (holds c) s = eqb-true (get_or xs n 0) comma c
      go (fails c) (holds s) = absurd (m (eqb-true (get_or xs n 0) slash s))
      go (fails c) (fails s) =
          let z : is_mark (get_or xs n 0) ≡ true = rw e (mark-is xs (rw e at h)) in
          let y : ◌≡◌ {A = Bool} false true = rw (c, s) at z in
          let x : ◌≡◌ {A = ℕ} 0 1 = cc in
          absurd (omega arith)

  pub first-comma : (p : ℕ) → get_or xs n 0 ≡ comma → cells_from p xs ≡ record { place = p; bytes = take n xs; mark = at_comma; rest = xs } ∷ cells_from (suc (p + n)) (drop (suc n) xs)
  first-comma p m = rw (with-mark comma m, long) at (cells-comma p (take n xs) (drop (suc n) xs) plain)

  pub first-slash : (p : ℕ) → get_or xs n 0 ≡ slash → cells_from p xs ≡ record { place = p; bytes = take n xs; mark = at_slash (drop (suc n) xs); rest = xs } ∷ []
  first-slash p m = rw (with-mark slash m) at (cells-slash p (take n xs) (drop (suc n) xs) plain)

-- ---- any first cell starts at p with all that is left

pub data Starts (p : ℕ) (xs : Bytes) : List Cell → Type 0 where
  starts : (bs : Bytes) (m : Mark) (cs : List Cell) → Starts p xs (record { place = p; bytes = bs; mark = m; rest = xs } ∷ cs)

pub cells-start : (p : ℕ) (xs : Bytes) → Starts p xs (cells_from p xs)
cells-start p xs = go (known (ltb (field_len xs) (length xs))) (known (eqb (get_or xs (field_len xs) 0) slash))
  where
    go : Known (ltb (field_len xs) (length xs)) → Known (eqb (get_or xs (field_len xs) 0) slash) → Starts p xs (cells_from p xs)
    go (holds q) (holds m) = rw (first-slash xs (field_len xs) refl (ltb-true (field_len xs) (length xs) q) p (eqb-true (get_or xs (field_len xs) 0) slash m)) (starts _ _ _)
    go (holds q) (fails m) =
        let h = ltb-true (field_len xs) (length xs) q in
        rw (first-comma xs (field_len xs) refl h p (comma-there xs (field_len xs) refl h (eqb-false (get_or xs (field_len xs) 0) slash m))) (starts _ _ _)
    go (fails q) m = rw (first-open p xs (ltb-false (field_len xs) (length xs) q)) (starts _ _ _)
