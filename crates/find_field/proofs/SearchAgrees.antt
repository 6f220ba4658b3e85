-- The search finds the first field of its kind among those that the rules' walk gives of an accepted record. Assumes nothing.
use mathlib.Core.Path.{◌≡◌, refl, sym, ap, ◌∙◌}
use mathlib.Core.Bool.{Bool, true, false, cond}
use mathlib.Core.List.{List, [], ◌∷◌}
use Rattle.rules.specs.Outcome.{fine}
use Rattle.rules.specs.Lines.{Code, Record}
use Rattle.rules.specs.Grammar.{Kind, same_kind, fields_of}
use Rattle.rules.specs.Records.{Field, walk_record, the}
use Rattle.rules.proofs.Binds.{refused-fine, from-bind, fine-same}
use Rattle.find_next.specs.FieldTrace.{Trace, stops, ends, yields, trace_lines, collected}
use Rattle.find_next.proofs.TraceAgrees.{collected-is}
use Rattle.find_field.specs.FieldSearch.{Found, sought_in, seek_lines}

abbrev found_of : Field → Found
found_of f = record { place = f.place; bytes = f.bytes }

either-found : (t : Bool) (f g : Field) → found_of (cond t f g) ≡ cond t (found_of f) (found_of g)
either-found true f g = refl
either-found false f g = refl

sought-is : (k : Kind) (t : Trace) (fs : List Field) → collected t ≡ fine fs → found_of (the k fs) ≡ sought_in k t
unfolding collected sought_in the
sought-is k (stops why) fs h = absurd (refused-fine why fs h)
sought-is k ends fs h = ap (λ (gs : List Field). found_of (the k gs)) (sym (fine-same [] fs h))
sought-is k (yields f t) fs h =
    from-bind (collected t) _ fs h (λ gs first rest.
    ap (λ (hs : List Field). found_of (the k hs)) (sym (fine-same (f ∷ gs) fs rest))
    ∙ either-found (same_kind k f.kind) f (the k gs)
    ∙ ap (λ (x : Found). cond (same_kind k f.kind) (found_of f) x) (sought-is k t gs first))

-- THE SEARCH in a record that is read as one of code c
pub found-is : (k : Kind) (c : Code) (r : Record) (fs : List Field) → walk_record c r ≡ fine fs → record { place = (the k fs).place; bytes = (the k fs).bytes } ≡ seek_lines k (fields_of c) r
unfolding seek_lines
found-is k c r fs h = sought-is k (trace_lines 0 (fields_of c) 0 r) fs (sym (collected-is c r) ∙ h)
