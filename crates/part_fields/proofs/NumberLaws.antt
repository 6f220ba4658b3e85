-- A walk to no kind: it ends as the rules' walk does, and its numbers are those that the rules hand out. Assumes nothing.
use Prim.Native.Nat.{ℕ, suc, ◌+◌, ◌*◌, ◌≤◌}
use native.Mathlib.Omega.{arith}
use mathlib.Core.Path.{◌≡◌, refl, ap, ◌∙◌}
use mathlib.Core.Bool.{false}
use mathlib.Core.List.{List, [], ◌∷◌, ◌++◌}
use lib.Dec.{eqb}
use lib.ListN.{length, drop}
use Rattle.rules.specs.Outcome.{Outcome, refused, fine, ◌>>=◌, moved}
use Rattle.rules.specs.Grammar.{Kind, name, reference, ultimate_receiver, date, time, time_or_none, file_number, physical_length, block_size, version, group_status, currency, modifier, first_type, further_type, status_amount, amount, item_count, funds, detail_type, text, further_text, split_amount, pair_count, days, day_amount, total, count, records, nothing, kind_number}
use Rattle.rules.specs.Records.{Field}
use Rattle.rules.specs.HandedOut.{handed_length, handed}
use Rattle.rules.proofs.Binds.{refused-fine, from-bind, fine-same}
use Rattle.find_next.specs.FieldTrace.{Trace, stops, ends, yields, collected}
use Rattle.find_walk.specs.WalkEnds.{WalkEnd, stopped, over_after, after, walk_end, numbers_passed, put_threes}

-- no kind has number 0
no_kind : (k : Kind) → eqb 0 (kind_number k) ≡ false
no_kind name = refl
no_kind reference = refl
no_kind ultimate_receiver = refl
no_kind date = refl
no_kind time = refl
no_kind time_or_none = refl
no_kind file_number = refl
no_kind physical_length = refl
no_kind block_size = refl
no_kind version = refl
no_kind group_status = refl
no_kind currency = refl
no_kind modifier = refl
no_kind first_type = refl
no_kind further_type = refl
no_kind status_amount = refl
no_kind amount = refl
no_kind item_count = refl
no_kind funds = refl
no_kind detail_type = refl
no_kind text = refl
no_kind further_text = refl
no_kind split_amount = refl
no_kind pair_count = refl
no_kind days = refl
no_kind day_amount = refl
no_kind total = refl
no_kind count = refl
no_kind records = refl
no_kind nothing = refl

-- ---- where it ends

abbrev pub end_of : Outcome (List Field) → WalkEnd
end_of (refused why) = stopped why
end_of (fine fs) = over_after (length fs)

one_more : (start : ℕ) (f : Field) (o : Outcome (List Field)) → after 1 (end_of (moved start o)) ≡ end_of (moved start (o >>= λ fs. fine (f ∷ fs)))
unfolding moved
one_more start f (refused why) = refl
one_more start f (fine fs) = let z : 1 + length fs ≡ suc (length fs) = omega arith in ap over_after z

pub end_is : (start : ℕ) (t : Trace) → walk_end 0 start t ≡ end_of (moved start (collected t))
unfolding walk_end collected moved
end_is start (stops why) = refl
end_is start ends = refl
end_is start (yields f t) = rw (no_kind f.kind, end_is start t) (one_more start f (collected t))

-- ---- its numbers

pub numbers-are : (start : ℕ) (t : Trace) (fs : List Field) → collected t ≡ fine fs → numbers_passed 0 start t ≡ handed start fs
unfolding numbers_passed collected handed
numbers-are start (stops why) fs h = absurd (refused-fine why fs h)
numbers-are start ends fs h = ap (λ (gs : List Field). handed start gs) (fine-same [] fs h)
numbers-are start (yields f t) fs h =
    rw (no_kind f.kind)
    (from-bind (collected t) _ fs h (λ gs first rest.
    ap (λ (ns : List ℕ). kind_number f.kind ∷ (start + f.place) ∷ handed_length f ∷ ns) (numbers-are start t gs first)
    ∙ ap (λ (hs : List Field). handed start hs) (fine-same (f ∷ gs) fs rest)))

pub handed-size : (start : ℕ) (fs : List Field) → length (handed start fs) ≡ 3 * length fs
unfolding handed
handed-size start [] = refl
handed-size start (f ∷ fs) = let z = handed-size start fs in omega arith

-- all find room
pub put_all : (start : ℕ) (fs : List Field) (out : List ℕ) → 3 * length fs ≤ length out → put_threes (handed start fs) out ≡ handed start fs ++ drop (3 * length fs) out
unfolding handed put_threes
put_all start [] out h = refl
put_all start (f ∷ fs) [] h = absurd (omega arith)
put_all start (f ∷ fs) (a ∷ []) h = absurd (omega arith)
put_all start (f ∷ fs) (a ∷ b ∷ []) h = absurd (omega arith)
put_all start (f ∷ fs) (a ∷ b ∷ c ∷ out) h =
    let z : 3 * suc (length fs) ≡ suc (suc (suc (3 * length fs))) = omega arith in
    rw (z, put_all start fs out (omega arith))
