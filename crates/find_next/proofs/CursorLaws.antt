-- What is promised of the next field, at each answer: in a line, before a line, and from either. Assumes nothing.
use Prim.Native.Nat.{ℕ, zero, suc, ◌+◌, ◌-◌, ◌≤◌, ◌<◌}
use native.Mathlib.Omega.{arith}
use mathlib.Core.Path.{◌≡◌, refl, sym, ap, subst, ◌∙◌}
use mathlib.Core.Bool.{true, false}
use mathlib.Core.List.{List}
use borrow.Author.Tests.{le-leb, lt-leb}
use lib.ListN.{length, take, drop, get_or, length-take, length-drop}
use lib.Seq.{slice, drop-drop}
use Rattle.rules.specs.Bytes.{Bytes, slash}
use Rattle.rules.specs.Cells.{cells_from, leading_blanks}
use Rattle.rules.specs.Grammar.{Kind, bad, good, take_next, next_kind, is_text, may_lack}
use Rattle.base_quantities.specs.declared.Place.{Place}
use Rattle.base_refusals.specs.declared.Reason.{Reason}
use Rattle.base_refusals.specs.declared.Reason.TheVariants as reasons
use Rattle.base_refusals.specs.declared.Refusal.{Refusal}
use Rattle.base_refusals.specs.RefusalMeaning.{reason_number}
use Rattle.read_lines.specs.LineLengths.{body_len, line_len}
use Rattle.read_lines.proofs.LineLaws.{take-drop}
use Rattle.read_wanted.specs.declared.want.Want.{Want}
use Rattle.read_wanted.specs.Wants.{wanted_of}
use Rattle.read_field_ends.specs.FieldLengths.{extent_of}
use Rattle.read_field_ends.proofs.FieldLengthLaws.{extent-within}
use Rattle.read_walk.proofs.LineParts.{part-front}
use Rattle.find_next.specs.declared.Cursor.{Cursor}
use Rattle.find_next.specs.declared.FieldStep.{FieldStep}
use Rattle.find_next.specs.FieldTrace.{Trace, stop_at, trace_cells, trace_end}
use Rattle.find_next.specs.CursorMeaning.{own_line, lines_from, trace_from, trace_of, next_meant, Inside, left_from, left_of, Onward, Takes, Ready, Ends, Enters, Steps}
use Rattle.std.specs.Prelude.{Option, Some, None, Result, Ok, Err}
use Rattle.find_next.proofs.OwnLines.{own-some}
use Rattle.find_next.proofs.TraceLaws.{at_open, short, wrong, past-text, past-comma, past_slash, stray, line_first, short-line, lines-over}

-- ---- where a walk stands

-- before a line
abbrev over_at : Want → Place → Place → Cursor
over_at w line s = record { want = w; at = record { 0 = 1 }; end = record { 0 = 0 }; line = line; slash = s }

pub trace-over : (rec : Bytes) (least : ℕ) (w : Want) (line s : Place) → trace_of rec least (over_at w line s) ≡ lines_from rec least line.0 (wanted_of w) s.0
unfolding trace_of trace_from
trace-over rec least w line s = refl

module _ (rec : Bytes) (least : ℕ) (c : Cursor) where
  abbrev ks : List Kind
  ks = wanted_of c.want

  trace-in : c.at.0 ≤ c.end.0 → trace_of rec least c ≡ trace_cells ks c.slash.0 (cells_from c.at.0 (slice c.at.0 c.end.0 rec)) (lines_from rec least c.line.0)
  unfolding trace_of trace_from
  trace-in h = rw (le-leb c.at.0 c.end.0 h)

  trace-past : c.end.0 < c.at.0 → trace_of rec least c ≡ lines_from rec least c.line.0 ks c.slash.0
  unfolding trace_of trace_from
  trace-past h = rw (lt-leb c.at.0 c.end.0 h)

-- how much is left
left_in : (rec : Bytes) (a e n : ℕ) → a ≤ e → left_from rec a e n ≡ suc (length rec - a)
unfolding left_from
left_in rec a e n h = rw (le-leb a e h)

left-past : (rec : Bytes) (a e n : ℕ) → e < a → left_from rec a e n ≡ length rec - n
unfolding left_from
left-past rec a e n h = rw (lt-leb a e h)

-- ---- in a line, of which xs is left

front-part : (rec : Bytes) (a e n : ℕ) → n ≤ length (slice a e rec) → take n (slice a e rec) ≡ take n (drop a rec)
front-part rec a e zero h = refl
front-part rec a e (suc n) h =
    part-front rec a e (suc n) (omega (arith, length-drop a (take e rec), length-take e rec)) ∙ sym (take-drop a (suc n) rec)

module _ (rec : Bytes) (least : ℕ) (c : Cursor) (xs : Bytes) (is : xs ≡ slice c.at.0 c.end.0 rec) where
  abbrev a : ℕ
  a = c.at.0

  abbrev go : List Kind → ℕ → Trace
  go = lines_from rec least c.line.0

  abbrev here : Trace
  here = trace_cells (ks rec least c) c.slash.0 (cells_from a (slice a c.end.0 rec)) go

  here-is : here ≡ trace_cells (ks rec least c) c.slash.0 (cells_from a xs) go
  here-is = ap (λ (l : Bytes). trace_cells (ks rec least c) c.slash.0 (cells_from a l) go) (sym is)

  pub size-left : (length xs ≤ c.end.0 - a) × (length xs ≤ length rec - a)
  size-left = rw is (omega (arith, length-drop a (take c.end.0 rec), length-take c.end.0 rec), omega (arith, length-drop a (take c.end.0 rec), length-take c.end.0 rec))

  field_is : (n : ℕ) → n ≤ length xs → take n xs ≡ take n (drop a rec)
  field_is n h = rw is (front-part rec a c.end.0 n (rw is at h))

  rest-is : (n : ℕ) → drop (suc n) xs ≡ slice (a + (n + 1)) c.end.0 rec
  rest-is n =
      let q : a + suc n ≡ a + (n + 1) = omega arith in
      ap (λ (l : Bytes). drop (suc n) l) is ∙ drop-drop (suc n) a (take c.end.0 rec) ∙ ap (λ (i : ℕ). drop i (take c.end.0 rec)) q

  -- it stops at a place of the line
  stops-takes : (why : Refusal) (r : Reason) (p : ℕ) → why ≡ record { reason = r; place = record { 0 = p } }
      → trace_cells (ks rec least c) c.slash.0 (cells_from a xs) go ≡ stop_at (reason_number r) p → p ≤ a + length xs → Takes rec least c (Err why)
  stops-takes why r p q t low =
      subst (λ (w : Refusal). Takes rec least c (Err w)) (sym q)
      (record { answer = here-is ∙ t; onward = λ h i. (omega (arith, size-left.0, i.in-line, i.in-record), omega (arith, size-left.0, i.in-line, i.in-record)) })

  pub open-takes : (why : Refusal) → why ≡ record { reason = reasons.LineBadlyEnded; place = record { 0 = a + length xs } } → None ≡ extent_of (is_text (next_kind (ks rec least c))) xs
      → Takes rec least c (Err why)
  open-takes why q t = stops-takes why reasons.LineBadlyEnded (a + length xs) q (at_open (ks rec least c) c.slash.0 a xs go t) (omega arith)

  -- a field of so many bytes, with this walk after it
  abbrev pub field-step : ℕ → Cursor → Result (Option FieldStep) Refusal
  field-step n d = Ok (Some (record { start = c.at; length = n; after = d }))

  module _ (n : ℕ) (size : Some n ≡ extent_of (is_text (next_kind (ks rec least c))) xs) where
    pub in_left : n ≤ length xs
    in_left = extent-within (is_text (next_kind (ks rec least c))) xs n size

    pub in-short : is_text (next_kind (ks rec least c)) ≡ false → n < length xs
    in-short nt = (short (ks rec least c) c.slash.0 a xs go n size nt).1

    pub wrong-takes : (why : Refusal) (r : Reason) → why ≡ record { reason = r; place = c.at } → take_next (ks rec least c) (take n xs) ≡ bad (reason_number r) → Takes rec least c (Err why)
    wrong-takes why r q t = stops-takes why r a q (wrong (ks rec least c) c.slash.0 a xs go n size (reason_number r) t) (omega arith)

    module _ (w : Want) (good-field : take_next (ks rec least c) (take n xs) ≡ good (wanted_of w)) where
      -- the line goes on
      pub comma-takes : is_text (next_kind (ks rec least c)) ≡ false → (get_or xs n 0 ≡ slash → ⊥)
          → Takes rec least c (field-step n (record { want = w; at = record { 0 = a + (n + 1) }; end = c.end; line = c.line; slash = c.slash }))
      comma-takes nt m =
          let d : Cursor = record { want = w; at = record { 0 = a + (n + 1) }; end = c.end; line = c.line; slash = c.slash } in
          let ahead : a + (n + 1) ≤ c.end.0 = omega (arith, size-left.0, in-short nt) in
          let place : suc (a + n) ≡ a + (n + 1) = omega arith in
          record {
            answer = here-is ∙ past-comma (ks rec least c) c.slash.0 a xs go n size (wanted_of w) good-field nt m ∙ rw (field_is n in_left, rest-is n, place, trace-in rec least d ahead);
            onward = λ h i. (
              omega (arith, size-left.1, in-short nt, i.in-line, i.in-record),
              record { in-line = i.in-line; in-record = i.in-record; slashed = i.slashed },
              rw (left_in rec (a + (n + 1)) c.end.0 c.line.0 ahead, left_in rec a c.end.0 c.line.0 h) (omega (arith, i.in-line, i.in-record)),
            );
          }

      -- the line is over
      over-onward : (s : Place) → (c.at.0 ≤ c.end.0 → Inside rec c → s.0 ≤ length rec) → a ≤ c.end.0 → Onward rec c (field-step n (over_at w c.line s))
      over-onward s in-rec h i = (
        omega (arith, size-left.0, in_left, i.in-line, i.in-record),
        record { in-line = omega arith; in-record = i.in-record; slashed = in-rec h i },
        rw (left-past rec 1 0 c.line.0 (omega arith), left_in rec a c.end.0 c.line.0 h) (omega (arith, i.in-line, i.in-record)),
      )

      pub text-takes : (d : Cursor) → d ≡ over_at w c.line c.slash → is_text (next_kind (ks rec least c)) ≡ true → Takes rec least c (field-step n d)
      text-takes d q t =
          subst (λ (x : Cursor). Takes rec least c (field-step n x)) (sym q)
          (record {
            answer = here-is ∙ past-text (ks rec least c) c.slash.0 a xs go n size (wanted_of w) good-field t ∙ rw (field_is n in_left, trace-over rec least w c.line c.slash);
            onward = over-onward c.slash (λ h i. i.slashed);
          })

      -- after a slash, t is where the blanks end
      module _ (nt : is_text (next_kind (ks rec least c)) ≡ false) (m : get_or xs n 0 ≡ slash) (t : ℕ) (ht : t ≡ n + 1 + leading_blanks (drop (n + 1) xs)) where
        pub stray-takes : (why : Refusal) → why ≡ record { reason = reasons.LineBadlyEnded; place = record { 0 = a + t } } → t < length xs → Takes rec least c (Err why)
        stray-takes why q low = stops-takes why reasons.LineBadlyEnded (a + t) q (stray (ks rec least c) c.slash.0 a xs go n size (wanted_of w) good-field nt m t ht low) (omega arith)

        pub slash-takes : (d : Cursor) → d ≡ over_at w c.line (record { 0 = a + n }) → length xs ≤ t → t ≤ length xs → Takes rec least c (field-step n d)
        slash-takes d q low high =
            subst (λ (x : Cursor). Takes rec least c (field-step n x)) (sym q)
            (record {
              answer = here-is ∙ past_slash (ks rec least c) c.slash.0 a xs go n size (wanted_of w) good-field nt m t ht low high ∙ rw (field_is n in_left, trace-over rec least w c.line (record { 0 = a + n }));
              onward = over-onward (record { 0 = a + n }) (λ h i. omega (arith, size-left.0, in_left, i.in-line, i.in-record));
            })

-- ---- in which line

-- no farther from the end
left_less : (rec : Bytes) (c : Cursor) (n a e : ℕ) → c.end.0 < c.at.0 → a ≤ e → c.line.0 + 3 ≤ a → a ≤ length rec → left_from rec a e n ≤ left_of rec c
left_less rec c n a e past low ahead high =
    rw (left_in rec a e n low, left-past rec c.at.0 c.end.0 c.line.0 past) (omega arith)

module _ (rec : Bytes) (least : ℕ) (c : Cursor) where
  -- the line goes on
  pub same-enters : c.at.0 ≤ c.end.0 → Enters rec least c (Ok (Some c))
  same-enters h = record { answer = refl; ready = (refl, h, λ i. (i, omega arith)) }

  module _ (past : c.end.0 < c.at.0) where
    -- no line is left
    pub end_refused : (why : Refusal) → own_line least c.line.0 (drop c.line.0 rec) ≡ false → Ends c.want c.slash (Err why) → Enters rec least c (Err why)
    unfolding trace_end
    end_refused why own e =
        record {
          answer = trace-past rec least c past ∙ lines-over rec least (wanted_of c.want) c.slash.0 c.line.0 own ∙ rw (e.0, e.1);
          ready = λ i. rw e.1 (omega (arith, i.slashed), omega (arith, i.slashed));
        }

    pub end-over : own_line least c.line.0 (drop c.line.0 rec) ≡ false → may_lack (wanted_of c.want) ≡ true → Enters rec least c (Ok None)
    unfolding trace_end
    end-over own e =
        record { answer = trace-past rec least c past ∙ lines-over rec least (wanted_of c.want) c.slash.0 c.line.0 own ∙ rw e; ready = tt }

    -- the next line ends at e, before the one at n
    module _ (own : own_line least c.line.0 (drop c.line.0 rec) ≡ true) (e n : ℕ) (he : e ≡ c.line.0 + body_len (drop c.line.0 rec)) (hn : n ≡ c.line.0 + line_len (drop c.line.0 rec)) where
      pub short-enters : (why : Refusal) → why ≡ record { reason = reasons.LineBadlyEnded; place = record { 0 = c.line.0 + 3 } } → e < c.line.0 + 3 → Enters rec least c (Err why)
      short-enters why q low =
          subst (λ (w : Refusal). Enters rec least c (Err w)) (sym q) (record {
            answer = trace-past rec least c past ∙ short-line rec least c.line.0 e n own he hn (wanted_of c.want) c.slash.0 low;
            ready = λ i. (omega (arith, i.in-record), omega (arith, own-some rec least c.line.0 own));
          })

      pub line-enters : c.line.0 + 3 ≤ e → e ≤ n → n ≤ length rec
          → Enters rec least c (Ok (Some (record { want = c.want; at = record { 0 = c.line.0 + 3 }; end = record { 0 = e }; line = record { 0 = n }; slash = c.slash })))
      line-enters low en nl =
          let d : Cursor = record { want = c.want; at = record { 0 = c.line.0 + 3 }; end = record { 0 = e }; line = record { 0 = n }; slash = c.slash } in
          record {
            answer = trace-past rec least c past ∙ line_first rec least c.line.0 e n own he hn (wanted_of c.want) c.slash.0 ∙ sym (trace-in rec least d low);
            ready = (refl, low, λ i. (record { in-line = en; in-record = nl; slashed = i.slashed }, left_less rec c n (c.line.0 + 3) e past low (omega arith) (omega arith)));
          }

  -- ---- the next field

  pub stop-steps : (why : Refusal) → Enters rec least c (Err why) → Steps rec least c (Err why)
  stop-steps why e = record { answer = e.answer; onward = e.ready }

  pub over-steps : Enters rec least c (Ok None) → Steps rec least c (Ok None)
  over-steps e = record { answer = e.answer; onward = tt }

  -- in the line that was entered
  onward-from : (d : Cursor) (r : Result (Option FieldStep) Refusal) → Ready rec c (Ok (Some d)) → Onward rec d r → Onward rec c r
  onward-from d (Err why) y o = λ i. o (y.2 i).0
  onward-from d (Ok None) y o = tt
  onward-from d (Ok (Some f)) y o = λ i. let z = o (y.2 i).0 in (z.0, z.1, omega (arith, z.2, (y.2 i).1))

  pub line-steps : (d : Cursor) (r : Result (Option FieldStep) Refusal) → Enters rec least c (Ok (Some d)) → Takes rec least d r → Steps rec least c r
  line-steps d r e t =
      let same : wanted_of d.want ≡ wanted_of c.want = ap wanted_of e.ready.0 in
      record {
        answer = e.answer ∙ trace-in rec least d e.ready.1 ∙ t.answer ∙ ap (λ (ks : List Kind). next_meant rec least ks r) same;
        onward = onward-from d r e.ready (t.onward e.ready.1);
      }
