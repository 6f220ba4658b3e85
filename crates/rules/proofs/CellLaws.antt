-- A line's cells from its first on. Assumes nothing.
use mathlib.Core.Path.{◌≡◌, refl, ◌∙◌}
use mathlib.Core.Bool.{Bool, not, ◌&&◌}
use mathlib.Core.List.{[], ◌∷◌, ◌++◌}
use Prim.Native.Nat.{ℕ, suc, ◌+◌}
use native.Mathlib.Nat.{add-zero, suc-add, add-suc}
use lib.Dec.{T, eqb}
use lib.ListN.{length}
use Rattle.rules.specs.Bytes.{Bytes, comma, slash, all}
use Rattle.rules.specs.Cells.{at_comma, at_slash, at_line_end, cells_from, lengthened}
use Rattle.rules.proofs.Tests.{not-false, and_left, and_right}

-- a byte that ends no cell
abbrev pub plain_byte : ℕ → Bool
plain_byte b = not (eqb b comma) && not (eqb b slash)

plain_cell : (p b : ℕ) (bs : Bytes) → T (plain_byte b) → cells_from p (b ∷ bs) ≡ lengthened p b (cells_from (suc p) bs)
unfolding cells_from
plain_cell p b bs h =
    rw (not-false (eqb b comma) (and_left (not (eqb b comma)) (not (eqb b slash)) h), not-false (eqb b slash) (and_right (not (eqb b comma)) (not (eqb b slash)) h))

-- the first cell, up to its comma, its slash or the line's end
pub cells-comma : (p : ℕ) (w bs : Bytes) → T (all plain_byte w)
    → cells_from p (w ++ (comma ∷ bs)) ≡ record { place = p; bytes = w; mark = at_comma; rest = w ++ (comma ∷ bs) } ∷ cells_from (suc (p + length w)) bs
unfolding all cells_from lengthened
cells-comma p [] bs h = rw add-zero
cells-comma p (b ∷ w) bs h =
    plain_cell p b (w ++ (comma ∷ bs)) (and_left (plain_byte b) (all plain_byte w) h)
    ∙ rw (cells-comma (suc p) w bs (and_right (plain_byte b) (all plain_byte w) h), suc-add, add-suc)

pub cells-slash : (p : ℕ) (w bs : Bytes) → T (all plain_byte w)
    → cells_from p (w ++ (slash ∷ bs)) ≡ record { place = p; bytes = w; mark = at_slash bs; rest = w ++ (slash ∷ bs) } ∷ []
unfolding all cells_from lengthened
cells-slash p [] bs h = refl
cells-slash p (b ∷ w) bs h =
    plain_cell p b (w ++ (slash ∷ bs)) (and_left (plain_byte b) (all plain_byte w) h)
    ∙ rw (cells-slash (suc p) w bs (and_right (plain_byte b) (all plain_byte w) h))

pub cells-end : (p : ℕ) (w : Bytes) → T (all plain_byte w) → cells_from p w ≡ record { place = p; bytes = w; mark = at_line_end; rest = w } ∷ []
unfolding all cells_from lengthened
cells-end p [] h = refl
cells-end p (b ∷ w) h =
    plain_cell p b w (and_left (plain_byte b) (all plain_byte w) h)
    ∙ rw (cells-end (suc p) w (and_right (plain_byte b) (all plain_byte w) h))
