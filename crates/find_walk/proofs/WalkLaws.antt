-- The walk up to a field of a kind: what holds before each field, and what is promised at its end. Assumes nothing.
use Prim.Native.Nat.{ℕ, suc, ◌+◌, ◌≤◌, ◌<◌}
use native.Mathlib.Omega.{arith}
use mathlib.Core.Path.{◌≡◌, refl, sym, ap, subst, ◌∙◌}
use mathlib.Core.Bool.{true, false, cond, ◌&&◌}
use mathlib.Core.List.{List, []}
use borrow.Author.Tests.{eq-eqb, ne_eqb}
use lib.Dec.{eqb, leb}
use lib.ListN.{length, take, drop}
use Rattle.std.specs.Prelude.{Some, None, Result, Ok, Err}
use Rattle.rules.specs.Bytes.{Bytes, slash, just}
use Rattle.rules.specs.Lines.{Code}
use Rattle.rules.specs.Grammar.{kind_number, next_kind}
use Rattle.rules.specs.Records.{Field}
use Rattle.rules.proofs.Tests.{Known, holds, fails, known}
use Rattle.base_refusals.specs.declared.Refusal.{Refusal}
use Rattle.read_wanted.specs.Wants.{wanted_of}
use Rattle.find_next.specs.declared.Cursor.{Cursor}
use Rattle.find_next.specs.declared.FieldStep.{FieldStep}
use Rattle.find_next.specs.FieldTrace.{Trace, field_at}
use Rattle.find_next.specs.CursorMeaning.{trace_of, Inside, Near, left_from, left_of, Steps}
use Rattle.find_walk.specs.declared.Reached.{Reached}
use Rattle.find_walk.specs.declared.Reached.TheVariants as reached
use Rattle.find_walk.specs.WalkEnds.{WalkEnd, stopped, over_after, met_at, after, walk_end, numbers_passed, put_threes, PutsThree, trace_of_record, reached_meant, StandsIn, WalksTo}
use Rattle.find_walk.proofs.PutLaws.{onto, onto-end, put_on, shown-is}

-- ---- how much can be left of a record

left-most : (rec : Bytes) (a e n : ℕ) → Known (leb a e) → left_from rec a e n ≤ suc (length rec)
unfolding left_from
left-most rec a e n (holds t) = rw t (omega arith)
left-most rec a e n (fails t) = rw t (omega arith)

-- ---- counting

after_none : (w : WalkEnd) → w ≡ after 0 w
after_none (stopped why) = refl
after_none (over_after m) = let z : m ≡ 0 + m = omega arith in ap over_after z
after_none (met_at p bs) = refl

after_more : (n : ℕ) (w : WalkEnd) → after n (after 1 w) ≡ after (n + 1) w
after_more n (stopped why) = refl
after_more n (over_after m) = let z : n + (1 + m) ≡ n + 1 + m = omega arith in ap over_after z
after_more n (met_at p bs) = refl

-- ---- before a field: n were passed of what the whole walk yields, and `at` numbers stand in the slice

pub record Going (rec : Bytes) (start least k : ℕ) (all : Trace) (before : List ℕ) (c : Cursor) (n at : ℕ) (out : List ℕ) : Type 0 where
  pub inside : Inside rec c
  pub end : walk_end k start all ≡ after n (walk_end k start (trace_of rec least c))
  pub few : n + left_of rec c ≤ suc (length rec)
  pub long : length out ≡ length before
  pub within : at ≤ length out
  pub still : put_threes (numbers_passed k start all) before ≡ onto (numbers_passed k start (trace_of rec least c)) at out

pub going_start : (rec : Bytes) (start least k : ℕ) (c : Cursor) (out : List ℕ) → Inside rec c → Going rec start least k (trace_of rec least c) out c 0 0 out
going_start rec start least k c out i =
    record {
      inside = i;
      end = after_none (walk_end k start (trace_of rec least c));
      few = omega (arith, left-most rec c.at.0 c.end.0 c.line.0 (known (leb c.at.0 c.end.0)));
      long = refl;
      within = omega arith;
      still = refl;
    }

module _ (rec : Bytes) (start least k : ℕ) (all : Trace) (before : List ℕ) (c : Cursor) (n at : ℕ) (out : List ℕ) (g : Going rec start least k all before c n at out) where
  -- a refusal's place
  pub stop-within : (why : Refusal) → Steps rec least c (Err why) → Near rec why.place.0
  stop-within why s = s.onward g.inside

  -- a field
  pub onward : (f : FieldStep) → Steps rec least c (Ok (Some f)) → (f.start.0 + f.length ≤ length rec) × Inside rec f.after × (left_of rec f.after < left_of rec c)
  onward f s = s.onward g.inside

  -- where the walk ends, and no number is still to be put
  out-is : (t : Trace) → trace_of rec least c ≡ t → numbers_passed k start t ≡ [] → out ≡ put_threes (numbers_passed k start all) before
  out-is t e none =
      let z : numbers_passed k start (trace_of rec least c) ≡ [] = ap (λ (x : Trace). numbers_passed k start x) e ∙ none in
      sym (g.still ∙ ap (λ (ns : List ℕ). onto ns at out) z ∙ onto-end at out)

  end_is : (t : Trace) → trace_of rec least c ≡ t → walk_end k start all ≡ after n (walk_end k start t)
  end_is t e = g.end ∙ ap (λ (x : Trace). after n (walk_end k start x)) e

  -- the record's bytes as the contract names them
  module _ (code : Code) (is : all ≡ trace_of_record rec least code) (whole : Bytes) (same : rec ≡ whole) where
    abbrev promised : Result Reached Refusal → Type 0
    promised x = WalksTo whole start least code k before out x

    ends_so : (x : Result Reached Refusal) (t : Trace) → trace_of rec least c ≡ t → numbers_passed k start t ≡ [] → reached_meant rec x ≡ after n (walk_end k start t) → StandsIn rec x
        → promised x
    ends_so x t e none q i =
        subst (λ (bs : Bytes). WalksTo bs start least code k before out x) same
        (record {
          answer = q ∙ sym (end_is t e) ∙ ap (λ (y : Trace). walk_end k start y) is;
          out = out-is t e none ∙ ap (λ (y : Trace). put_threes (numbers_passed k start y) before) is;
          inside = i;
        })

    -- the walk is refused
    pub stop-ends : (why told : Refusal) → Steps rec least c (Err why) → told ≡ record { reason = why.reason; place = record { 0 = start + why.place.0 } } → promised (Err told)
    unfolding walk_end numbers_passed
    stop-ends why told s q = rw q (ends_so (Err (record { reason = why.reason; place = record { 0 = start + why.place.0 } })) _ s.answer refl refl tt)

    -- the record is over
    pub over-ends : Steps rec least c (Ok None) → promised (Ok (reached.Over (record { 0 = n })))
    unfolding walk_end numbers_passed
    over-ends s = let z : n ≡ n + 0 = omega arith in ends_so (Ok (reached.Over (record { 0 = n }))) _ s.answer refl (ap over_after z) tt

    -- at a field
    module _ (f : FieldStep) (s : Steps rec least c (Ok (Some f))) (kind : ℕ) (hk : kind ≡ kind_number (next_kind (wanted_of c.want))) where
      abbrev bytes : Bytes
      bytes = take f.length (drop f.start.0 rec)

      abbrev field : Field
      field = field_at (wanted_of c.want) f.start.0 bytes

      -- it is the one sought
      pub met-ends : kind ≡ k → promised (Ok (reached.Field f.start f.length))
      unfolding walk_end numbers_passed
      met-ends q =
          let same-kind : eqb k (kind_number field.kind) ≡ true = eq-eqb k (kind_number field.kind) (sym q ∙ hk) in
          ends_so (Ok (reached.Field f.start f.length)) _ s.answer (rw same-kind) (sym (rw same-kind)) (onward f s).0

      -- it is another one
      pub going_next : (now : List ℕ) (now-at : ℕ) → (kind ≡ k → ⊥) → PutsThree at kind (start + f.start.0) (cond (eqb 21 kind && just slash bytes) 0 (length bytes)) out now now-at
          → Going rec start least k all before f.after (n + 1) now-at now
      unfolding walk_end numbers_passed
      going_next now now-at other puts =
          let differs : eqb k (kind_number field.kind) ≡ false = ne_eqb k (kind_number field.kind) (λ q. other (hk ∙ sym q)) in
          let on = put_on kind (start + f.start.0) (cond (eqb 21 kind && just slash bytes) 0 (length bytes)) (numbers_passed k start (trace_of rec least f.after)) at out now now-at g.within puts in
          let o = onward f s in
          record {
            inside = o.1;
            end = end_is _ s.answer ∙ rw differs (after_more n (walk_end k start (trace_of rec least f.after)));
            few = omega (arith, g.few, o.2);
            long = on.long ∙ g.long;
            within = on.within;
            still = g.still ∙ ap (λ (x : Trace). onto (numbers_passed k start x) at out) s.answer
                ∙ rw (differs, ← hk, ← shown-is (wanted_of c.want) f.start.0 bytes kind hk) on.still;
          }
