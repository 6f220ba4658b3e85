-- From the place of one of its records on, a file is cut into that record and those after it. Assumes nothing.
use Prim.Native.Nat.{ℕ, ◌+◌}
use mathlib.Core.Path.{◌≡◌, refl, sym, ap, subst, ◌∙◌}
use mathlib.Core.List.{List, [], ◌∷◌, ◌++◌, append-nil}
use native.Mathlib.Nat.{add-zero, zero-add, add_assoc}
use native.Mathlib.Omega.{arith}
use lib.Dec.{T}
use lib.ListN.{length, drop}
use lib.Seq.{drop-append_seam}
use Rattle.rules.specs.Bytes.{Bytes}
use Rattle.rules.specs.Lines.{Line, lines_of, line_bytes, Record, records_of, record_size, record_bytes, file_records}
use Rattle.rules.specs.Parts.{size_of_all}
use Rattle.rules.specs.Combine.{concat}
use Rattle.rules.proofs.LineLaws.{file-bytes}
use Rattle.laws.specs.LawWords.{All, IsRecord}
use Rattle.laws.proofs.Lists.{all_right, concat-append}
use Rattle.laws.proofs.WholeLines.{AllButLast, lines-whole, wholes-stay, front-wholes}
use Rattle.laws.proofs.KeptBytes.{First, records-first, records-lines, records-stay, bytes-joined, bytes-append}
use Rattle.laws.proofs.PartSlices.{size-length}

-- ---- sizes

pub size-append : (rs qs : List Record) → size_of_all (rs ++ qs) ≡ size_of_all rs + size_of_all qs
unfolding size_of_all
size-append [] qs = sym (zero-add (size_of_all qs))
size-append (r ∷ rs) qs = rw (size-append rs qs) (sym (add_assoc (record_size r) (size_of_all rs) (size_of_all qs)))

pub size-next : (rs : List Record) (r : Record) → size_of_all (rs ++ (r ∷ [])) ≡ size_of_all rs + record_size r
unfolding size_of_all
size-next rs r = size-append rs (r ∷ []) ∙ ap (λ (n : ℕ). size_of_all rs + n) (add-zero (record_size r))

pub size-file : (file : Bytes) → size_of_all (file_records file) ≡ length file
size-file file = size-length (file_records file) ∙ ap (λ (bs : Bytes). length bs) (file-bytes file)

-- ---- the bytes after some records

bytes_after : (file : Bytes) (rs qs : List Record) → file_records file ≡ rs ++ qs → drop (size_of_all rs) file ≡ record_bytes qs
bytes_after file rs qs e =
    let whole : file ≡ record_bytes rs ++ record_bytes qs = sym (file-bytes file) ∙ ap record_bytes e ∙ bytes-append rs qs in
    ap (λ (n : ℕ). drop n file) (size-length rs)
    ∙ ap (λ (bs : Bytes). drop (length (record_bytes rs)) bs) whole
    ∙ drop-append_seam (record_bytes rs) (record_bytes qs)

-- ---- and their lines

same_rest : {A : Type 0} (xs ys zs : List A) → xs ++ ys ≡ xs ++ zs → ys ≡ zs
same_rest [] ys zs e = e
same_rest (x ∷ xs) ys zs e = same_rest xs ys zs cc

lines_after : (file : Bytes) (rs : List Record) (l : Line) (ls : List Line) (qs : List Record) → file_records file ≡ rs ++ ((l ∷ ls) ∷ qs)
    → lines_of (record_bytes ((l ∷ ls) ∷ qs)) ≡ concat ((l ∷ ls) ∷ qs)
unfolding file_records concat
lines_after file rs l ls qs e =
    let rest = record_bytes ((l ∷ ls) ∷ qs) in
    let lines : lines_of file ≡ concat rs ++ (l ∷ (ls ++ concat qs)) =
    sym (records-lines (lines_of file)) ∙ ap (λ (x : List Record). concat x) e ∙ concat-append rs ((l ∷ ls) ∷ qs) in
    let wholes = front-wholes (concat rs) l (ls ++ concat qs) (subst AllButLast lines (lines-whole file)) in
    let whole : file ≡ line_bytes (concat rs) ++ rest =
    sym (file-bytes file) ∙ ap record_bytes e ∙ bytes-append rs ((l ∷ ls) ∷ qs) ∙ ap (λ (bs : Bytes). bs ++ rest) (bytes-joined rs) in
    same_rest (concat rs) (lines_of rest) (l ∷ (ls ++ concat qs)) (sym (wholes-stay (concat rs) rest wholes) ∙ ap lines_of (sym whole) ∙ lines)

-- ---- and their records

-- all records but the first begin with a line that isn't an 88
others-are : (ls : List Line) (q : Record) (qs : List Record) → records_of ls ≡ q ∷ qs → All IsRecord qs
unfolding records_of
others-are [] q qs e = let z : ◌≡◌ {A = ℕ} 0 1 = cc in absurd (omega arith)
others-are (l ∷ ls) q qs e =
    let f : First l (records_of (l ∷ ls)) = records-first l ls in
    let others : f.others ≡ qs = cc f.split in
    rw (← others) f.are-records

records-again : (rs : List Record) → All IsRecord rs → records_of (concat rs) ≡ rs
unfolding records_of
records-again rs a = ap records_of (sym (append-nil (concat rs))) ∙ records-stay rs [] a tt ∙ append-nil rs

cut-after : (file : Bytes) (rs : List Record) (r : Record) (qs : List Record) → file_records file ≡ rs ++ (r ∷ qs) → All IsRecord (r ∷ qs)
    → file_records (record_bytes (r ∷ qs)) ≡ r ∷ qs
unfolding file_records
cut-after file rs [] qs e a = absurd a.0
cut-after file rs (l ∷ ls) qs e a = ap records_of (lines_after file rs l ls qs e) ∙ records-again ((l ∷ ls) ∷ qs) a

pub cut-from : (file : Bytes) (rs : List Record) (r : Record) (qs : List Record) → file_records file ≡ rs ++ (r ∷ qs) → file_records (drop (size_of_all rs) file) ≡ r ∷ qs
unfolding file_records size_of_all
cut-from file [] r qs e = e
cut-from file (q ∷ rs) r qs e =
    ap file_records (bytes_after file (q ∷ rs) (r ∷ qs) e)
    ∙ cut-after file (q ∷ rs) r qs e (all_right IsRecord rs (r ∷ qs) (others-are (lines_of file) q (rs ++ (r ∷ qs)) e))
