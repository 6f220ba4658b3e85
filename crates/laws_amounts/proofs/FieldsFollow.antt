-- The fields of a record that was read come one after the other: each is of the kind that is wanted next, and judged good. Assumes nothing.
use Prim.Native.Nat.{ℕ}
use mathlib.Core.Path.{◌≡◌, refl, subst, sym}
use mathlib.Core.List.{List, [], ◌∷◌, ◌++◌, append_assoc, append-nil}
use Rattle.rules.specs.Bytes.{Bytes}
use Rattle.rules.specs.Outcome.{Outcome, refused, fine, check, or_else}
use Rattle.rules.specs.Lines.{Code, Record}
use Rattle.rules.specs.Grammar.{Kind, good, judged, fields_of, may_lack}
use Rattle.rules.specs.Records.{Field, Walk, walk_lines, walk_record}
use Rattle.rules.specs.Parts.{fields_in}
use Rattle.rules.proofs.Binds.{from-bind, then-fine, fine-same}
use Rattle.laws.proofs.WalkedFields.{lines_keep}

-- the first of these kinds is the field's; it is good, and the others come after it where what it asks for is wanted first
abbrev pub Comes : Field → (List Kind → Type 0) → List Kind → Type 0
Comes f Others [] = ⊥
Comes f Others (k ∷ ks) = (f.kind ≡ k) × ((new : List Kind) × (judged k f.bytes ≡ good new) × Others (new ++ ks))

-- fields one after the other, where these kinds are wanted
abbrev pub Follow : List Field → List Kind → Type 0
Follow [] ks = Unit {0}
Follow (f ∷ fs) ks = Comes f (Follow fs) ks

-- fields that were read, and any that follow them
abbrev Read : List Kind → List Kind → List Field → Type 0
Read first ks fs = (gs : List Field) → Follow gs ks → Follow (fs ++ gs) first

-- a good field keeps it
read_more : (first : List Kind) (k : Kind) (ks new : List Kind) (fs : List Field) (p : ℕ) (bs : Bytes) → Read first (k ∷ ks) fs → judged k bs ≡ good new
    → Read first (new ++ ks) (fs ++ (record { kind = k; place = p; bytes = bs } ∷ []))
read_more first k ks new fs p bs i e gs h =
    let f : Field = record { kind = k; place = p; bytes = bs } in
    subst (λ (x : List Field). Follow x first) (sym (append_assoc fs (f ∷ []) gs)) (i (f ∷ gs) (refl, (new, e, h)))

walked-follow : (c : Code) (r : Record) (o : Outcome (List Field)) → walk_record c r ≡ o → Follow (or_else o []) (fields_of c)
unfolding walk_record
walked-follow c r (refused why) h = tt
walked-follow c r (fine fs) h =
    let first : Walk = record { wanted = fields_of c; fields = []; last_slash = 0 } in
    from-bind (walk_lines 0 first r) _ fs h (λ w walked rest.
    let all_of : w.fields ≡ fs = fine-same w.fields fs (then-fine (check (may_lack w.wanted) 8 w.last_slash) _ fs rest) in
    let last : Follow (w.fields ++ []) (fields_of c) = lines_keep (Read (fields_of c)) (read_more (fields_of c)) 0 r first w (λ gs f. f) walked [] tt in
    subst (λ (x : List Field). Follow x (fields_of c)) all_of (rw append-nil at last))

-- the fields of any record of code c
pub fields-follow : (c : Code) (r : Record) → Follow (fields_in c r) (fields_of c)
unfolding fields_in
fields-follow c r = walked-follow c r (walk_record c r) refl
