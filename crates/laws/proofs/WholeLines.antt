-- Lines that stay themselves: every line of a file but its last is read as itself wherever its bytes stand, and ends in LF. Assumes nothing.
use Prim.Native.Nat.{ℕ, ◌≤◌}
use mathlib.Core.Path.{◌≡◌, refl, sym, ap, ◌∙◌}
use mathlib.Core.Bool.{Bool, true, false, cond}
use mathlib.Core.List.{List, [], ◌∷◌, ◌++◌, append_assoc, append-nil}
use native.Mathlib.Omega.{arith}
use lib.Dec.{T, eqb}
use lib.ListN.{length, length-append}
use Rattle.rules.specs.Bytes.{Bytes, LF, CR}
use Rattle.rules.specs.Lines.{LineEnd, lacking, lf, crlf, end_bytes, Line, whole_line, longer_line, longer_first, lines_of, line_bytes}
use Rattle.rules.proofs.Tests.{Known, holds, fails, known}
use Rattle.rules.proofs.LineLaws.{longer-bytes}
use Rattle.laws.specs.LawWords.{All, ends_in_lf, ends_line, Whole}

-- all lines but the last
abbrev pub AllButLast : List Line → Type 0
AllButLast [] = Unit {0}
AllButLast (l ∷ []) = Unit {0}
AllButLast (l ∷ m ∷ ls) = Whole l × AllButLast (m ∷ ls)

-- ---- every line of a file but its last is whole

longer-ended : (b : ℕ) (w : Bytes) (e : LineEnd) → T (ends_line e) → T (ends_line (longer_line b w e).line_end)
unfolding longer_line
longer-ended b (c ∷ w) e h = h
longer-ended b [] lacking h = h
longer-ended b [] crlf h = h
longer-ended b [] lf h = go (eqb b 13)
  where
    go : (t : Bool) → T (ends_line (cond {A = Line} t (record { body = []; line_end = crlf }) (record { body = b ∷ []; line_end = lf })).line_end)
    go true = tt
    go false = tt

whole-longer : (b : ℕ) (l : Line) → whole_line (longer_line b l.body l.line_end) ≡ b ∷ whole_line l
unfolding line_bytes
whole-longer b l =
    sym (append-nil (whole_line (longer_line b l.body l.line_end))) ∙ longer-bytes b l.body l.line_end [] ∙ append-nil (b ∷ whole_line l)

longer-whole : (b : ℕ) (l : Line) → eqb b LF ≡ false → Whole l → Whole (longer_line b l.body l.line_end)
unfolding lines_of longer_first
longer-whole b l e w =
    record {
      ended = longer-ended b l.body l.line_end w.ended;
      stays = λ bs. ap (λ (x : Bytes). lines_of (x ++ bs)) (whole-longer b l) ∙ rw (e, w.stays bs);
    }

line-whole : Whole (record { body = []; line_end = lf })
unfolding lines_of
line-whole = record { ended = tt; stays = λ bs. refl }

longer-front : (b : ℕ) (ls : List Line) → eqb b LF ≡ false → AllButLast ls → AllButLast (longer_first b ls)
unfolding longer_first
longer-front b [] e h = tt
longer-front b (l ∷ []) e h = tt
longer-front b (l ∷ m ∷ ls) e h = (longer-whole b l e h.0, h.1)

line-front : (ls : List Line) → AllButLast ls → AllButLast (record { body = []; line_end = lf } ∷ ls)
line-front [] h = tt
line-front (m ∷ ls) h = (line-whole, h)

front-step : (b : ℕ) (bs : Bytes) → AllButLast (lines_of bs) → Known (eqb b LF) → AllButLast (lines_of (b ∷ bs))
unfolding lines_of
front-step b bs ih (holds e) = rw e (line-front (lines_of bs) ih)
front-step b bs ih (fails e) = rw e (longer-front b (lines_of bs) e ih)

pub lines-whole : (bs : Bytes) → AllButLast (lines_of bs)
unfolding lines_of
lines-whole [] = tt
lines-whole (b ∷ bs) = front-step b bs (lines-whole bs) (known (eqb b LF))

-- ---- whole lines stay

pub wholes-stay : (ls : List Line) (bs : Bytes) → All Whole ls → lines_of (line_bytes ls ++ bs) ≡ ls ++ lines_of bs
unfolding line_bytes
wholes-stay [] bs w = refl
wholes-stay (l ∷ ls) bs w = ap lines_of (append_assoc (whole_line l) (line_bytes ls) bs) ∙ w.0.stays (line_bytes ls ++ bs) ∙ rw (wholes-stay ls bs w.1)

pub front-wholes : (ls : List Line) (m : Line) (ms : List Line) → AllButLast (ls ++ (m ∷ ms)) → All Whole ls
front-wholes [] m ms h = tt
front-wholes (l ∷ []) m ms h = (h.0, tt)
front-wholes (l ∷ k ∷ ls) m ms h = (h.0, front-wholes (k ∷ ls) m ms h.1)

-- ---- whole lines end in LF

ends-append : (bs : Bytes) (c : ℕ) (cs : Bytes) → T (ends_in_lf (c ∷ cs)) → T (ends_in_lf (bs ++ (c ∷ cs)))
ends-append [] c cs h = h
ends-append (b ∷ []) c cs h = h
ends-append (b ∷ d ∷ bs) c cs h = ends-append (d ∷ bs) c cs h

ends-after : (bs cs : Bytes) → T (ends_in_lf cs) → T (ends_in_lf (bs ++ cs))
ends-after bs [] h = absurd h
ends-after bs (c ∷ cs) h = ends-append bs c cs h

line-ends : (bs : Bytes) (e : LineEnd) → T (ends_line e) → T (ends_in_lf (bs ++ end_bytes e))
line-ends bs lacking h = absurd h
line-ends bs lf h = ends-append bs LF [] tt
line-ends bs crlf h = ends-append bs CR (LF ∷ []) tt

pub lines_end : (l : Line) (ls : List Line) → All Whole (l ∷ ls) → T (ends_in_lf (line_bytes (l ∷ ls)))
unfolding line_bytes
lines_end l [] w = rw append-nil (line-ends l.body l.line_end w.0.ended)
lines_end l (m ∷ ls) w = ends-after (whole_line l) (line_bytes (m ∷ ls)) (lines_end m ls w.1)

-- so there are no more of them than bytes
end-some : (e : LineEnd) → T (ends_line e) → 1 ≤ length (end_bytes e)
end-some lacking h = absurd h
end-some lf h = omega arith
end-some crlf h = omega arith

pub no-more-lines : (ls : List Line) → All Whole ls → length ls ≤ length (line_bytes ls)
unfolding line_bytes
no-more-lines [] w = omega arith
no-more-lines (l ∷ ls) w =
    let rest = no-more-lines ls w.1 in
    let some_byte = end-some l.line_end w.0.ended in
    simp length-append (omega arith)
