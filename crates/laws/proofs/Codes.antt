-- Codes of records: a record has one code, and a code that is among some is one of them. Assumes nothing.
use Prim.Native.Nat.{ℕ}
use mathlib.Core.Path.{◌≡◌, sym, subst, ◌∙◌}
use mathlib.Core.Bool.{false, not}
use mathlib.Core.List.{List, [], ◌∷◌}
use mathlib.Core.Option.{some}
use native.Mathlib.Omega.{arith}
use lib.Dec.{T, not_T, T_not, eqb, eqb_refl}
use lib.ListN.{take}
use Rattle.rules.specs.Bytes.{Bytes, same_bytes}
use Rattle.rules.specs.Outcome.{fine, check}
use Rattle.rules.specs.Lines.{lf, Line, Code, file_header, group_header, account_header, detail, account_trailer, group_trailer, file_trailer, continuation, code_bytes, same_code, begins, code_in, code_of, all_codes, Record}
use Rattle.rules.specs.Order.{among}
use Rattle.rules.specs.Verdict.{coded, in_order}
use Rattle.rules.specs.Parts.{heads}
use Rattle.rules.proofs.Tests.{Known, holds, fails, known, is_true, not-false, both, same-eq}
use Rattle.rules.proofs.Binds.{refused-fine, from-bind, then-fine, check-fine, or-fine, fine-same}
use Rattle.laws.specs.LawWords.{All, Of}

-- ---- a record has one code

-- the code that a line begins with is its code
pub code-of : (c : Code) (l : Line) → T (begins c l) → code_of l ≡ some c
unfolding code_of code_in begins same_bytes
code-of c l h = go c (same-eq (code_bytes c) (take 3 l.body) h)
  where
    go : (d : Code) → code_bytes d ≡ take 3 l.body → code_of l ≡ some d
    go file_header e = rw (← e)
    go group_header e = rw (← e)
    go account_header e = rw (← e)
    go detail e = rw (← e)
    go account_trailer e = rw (← e)
    go group_trailer e = rw (← e)
    go file_trailer e = rw (← e)
    go continuation e = rw (← e)

code-begins : (c : Code) (cs : List Code) (l : Line) → code_in cs l ≡ some c → T (begins c l)
unfolding code_in
code-begins c [] l h = let z : ◌≡◌ {A = ℕ} 0 1 = cc in absurd (omega arith)
code-begins c (d ∷ cs) l h = by_cases (known (begins d l)) (λ k. code-begins c cs l k)
  where
    by_cases : Known (begins d l) → (code_in cs l ≡ some c → T (begins c l)) → T (begins c l)
    by_cases (holds e) ih =
        let k : some d ≡ some c = rw e at h in
        let q : d ≡ c = cc in
        rw (← q, e) tt
    by_cases (fails e) ih = ih (rw e at h)

pub one_code : (c d : Code) (r : Record) → T (heads c r) → T (heads d r) → c ≡ d
one_code c d [] h k = absurd h
one_code c d (l ∷ ls) h k = let e : some c ≡ some d = sym (code-of c l h) ∙ code-of d l k in cc

-- codes that test as the same are the same
pub same_code_lem : (c d : Code) → T (same_code c d) → c ≡ d
unfolding begins same_bytes
same_code_lem c d h =
    let l : Line = record { body = code_bytes c; line_end = lf } in
    one_code c d (l ∷ []) (own c) (subst (λ (bs : Bytes). T (same_bytes bs (take 3 (code_bytes c)))) (same-eq (code_bytes c) (code_bytes d) h) (own c))
  where
    own : (e : Code) → T (same_bytes (code_bytes e) (take 3 (code_bytes e)))
    own file_header = tt
    own group_header = tt
    own account_header = tt
    own detail = tt
    own account_trailer = tt
    own group_trailer = tt
    own file_trailer = tt
    own continuation = tt

-- what holds of each of some codes holds of one that is among them
pub of-each : (P : Code → Type 0) (cs : List Code) → All P cs → (c : Code) → T (among c cs) → P c
unfolding among
of-each P [] a c h = absurd h
of-each P (d ∷ cs) a c h = by_cases (known (same_code c d)) (λ k. of-each P cs a.1 c k)
  where
    by_cases : Known (same_code c d) → (T (among c cs) → P c) → P c
    by_cases (holds e) ih = subst P (sym (same_code_lem c d (rw e tt))) a.0
    by_cases (fails e) ih = ih (rw e at h)

-- a code is among those that begin with it
pub same_refl : (bs : Bytes) → T (same_bytes bs bs)
unfolding same_bytes
same_refl [] = tt
same_refl (b ∷ bs) = both (eqb b b) (same_bytes bs bs) (eqb_refl b) (same_refl bs)

among-own : (c : Code) (cs : List Code) → T (among c (c ∷ cs))
unfolding among
among-own c cs = rw (is_true (same_code c c) (same_refl (code_bytes c))) tt

-- a record in order begins with its code, and that was expected
pub order-fine : (cs : List Code) (r : Record) (c : Code) → in_order cs r ≡ fine c → T (heads c r) × T (among c cs)
unfolding in_order coded code_of
order-fine cs [] c h = absurd (refused-fine _ c h)
order-fine cs (l ∷ ls) c h =
    from-bind (coded 0 l) _ c h (λ d first rest.
    let q : d ≡ c = fine-same d c (then-fine (check (among d cs) 6 0) (fine d) c rest) in
    (rw (← q) (code-begins d all_codes l (or-fine (code_of l) 5 0 d first)), rw (← q) (check-fine (among d cs) 6 0 (fine d) c rest)))

-- ---- records of some codes

pub of-own : (c : Code) (cs : List Code) (r : Record) → T (heads c r) → Of (c ∷ cs) r
of-own c cs r h = record { code = c; is_code = h; is_among = among-own c cs }

-- so it has no other
pub not-of : (cs : List Code) (d : Code) (r : Record) → T (not (among d cs)) → Of cs r → heads d r ≡ false
not-of cs d r n o =
    not-false (heads d r) (not_T (heads d r) (λ h. T_not (among d cs) n (subst (λ (c : Code). T (among c cs)) (one_code o.code d r o.is_code h) o.is_among)))

pub of-more : (cs ds : List Code) → ((c : Code) → T (among c cs) → T (among c ds)) → (r : Record) → Of cs r → Of ds r
of-more cs ds f r o = record { code = o.code; is_code = o.is_code; is_among = f o.code o.is_among }
