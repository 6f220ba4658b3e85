-- What the walk up to a field of a kind finds is what the search finds. Assumes nothing.
use Prim.Native.Nat.{ℕ}
use mathlib.Core.Path.{◌≡◌, refl, ap, ◌∙◌}
use lib.ListN.{length}
use Rattle.rules.specs.Bytes.{Bytes}
use Rattle.rules.specs.Lines.{Code, Record, lines_of}
use Rattle.rules.specs.Grammar.{Kind, kind_number, same_kind, fields_of}
use Rattle.rules.specs.Records.{Field}
use Rattle.rules.proofs.Tests.{Known, holds, fails, known}
use Rattle.find_next.specs.FieldTrace.{Trace, stops, ends, yields, trace_lines}
use Rattle.find_next.proofs.OwnLines.{all_own}
use Rattle.find_walk.specs.WalkEnds.{WalkEnd, stopped, over_after, met_at, after, walk_end, trace_of_record}
use Rattle.find_field.specs.FieldSearch.{Found, nothing_found, sought_in, seek_lines}

-- what is found at a walk's end
abbrev pub found_at : WalkEnd → Found
found_at (stopped why) = nothing_found
found_at (over_after n) = nothing_found
found_at (met_at p bs) = record { place = p; bytes = bs }

after-found : (n : ℕ) (w : WalkEnd) → found_at (after n w) ≡ found_at w
after-found n (stopped why) = refl
after-found n (over_after m) = refl
after-found n (met_at p bs) = refl

found-step : (k : Kind) (start : ℕ) (f : Field) (t : Trace) → found_at (walk_end (kind_number k) start t) ≡ sought_in k t → Known (same_kind k f.kind)
    → found_at (walk_end (kind_number k) start (yields f t)) ≡ sought_in k (yields f t)
unfolding walk_end sought_in
found-step k start f t ih (holds e) = rw e
found-step k start f t ih (fails e) = rw e (after-found 1 (walk_end (kind_number k) start t) ∙ ih)

end-found : (k : Kind) (start : ℕ) (t : Trace) → found_at (walk_end (kind_number k) start t) ≡ sought_in k t
unfolding walk_end sought_in
end-found k start (stops why) = refl
end-found k start ends = refl
end-found k start (yields f t) = found-step k start f t (end-found k start t) (known (same_kind k f.kind))

-- THE WALK over a whole record
pub walk-found : (k : Kind) (c : Code) (rec : Bytes) → found_at (walk_end (kind_number k) 0 (trace_of_record rec (length rec) c)) ≡ seek_lines k (fields_of c) (lines_of rec)
unfolding seek_lines
walk-found k c rec =
    end-found k 0 (trace_of_record rec (length rec) c) ∙ ap (λ (r : Record). sought_in k (trace_lines 0 (fields_of c) 0 r)) (all_own rec)
