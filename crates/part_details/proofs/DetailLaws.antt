-- A detail's answer, by what the search finds in its record. Assumes nothing.
use Prim.Native.Nat.{ℕ, ◌+◌, ◌-◌, ◌≤◌}
use native.Mathlib.Omega.{arith}
use mathlib.Core.Path.{◌≡◌, refl, sym, ap, ◌∙◌}
use mathlib.Core.Bool.{Bool, true, false, cond}
use mathlib.Core.List.{List, []}
use lib.ListN.{length, take, drop, length-take, length-drop}
use lib.Seq.{slice, drop-drop, length-take-le}
use Rattle.rules.specs.Bytes.{Bytes, slash, just, one_of}
use Rattle.rules.specs.Numbers.{number}
use Rattle.rules.specs.Amounts.{Amount, empty, amount_in}
use Rattle.rules.specs.Outcome.{not_refused, Outcome, refused, fine, ◌>>=◌, or_else}
use Rattle.rules.specs.Lines.{detail, Record, record_bytes}
use Rattle.rules.specs.Grammar.{Kind, detail_type, amount, text, fields_of}
use Rattle.rules.specs.Records.{Field, the}
use Rattle.rules.specs.Parts.{Placed, detail_part_at, part_bytes, fields_in, first_fields, detail_in, detail_at}
use Rattle.rules.specs.Answers.{PartAnswer, part_answer, no_detail, detail_answer, detail_of_file}
use Rattle.rules.proofs.Tests.{Known, holds, fails, known}
use Rattle.find_field.specs.FieldSearch.{Found, nothing_found, seek_lines, in_detail}
use Rattle.find_field.proofs.SearchAgrees.{found-is}
use Rattle.read_lines.proofs.LineLaws.{take-drop}
use Rattle.read_walk.proofs.LineParts.{part_slice, part-front}
use Rattle.std.specs.Prelude.{Ok, Err}
use Rattle.base_refusals.specs.declared.Refusal.{Refusal}
use Rattle.base_amounts.specs.AmountsRead.{amount_meant}
use Rattle.part_groups.specs.declared.Part.{Part}
use Rattle.part_groups.specs.PartMeaning.{part_meant}
use Rattle.part_groups.proofs.PartsMoved.{some_number}
use Rattle.part_details.specs.declared.DetailAnswer.{DetailAnswer}
use Rattle.part_details.specs.DetailMeaning.{detail_meant}
use Rattle.part_details.specs.TextPlace.{piece_at, TextIs}
use Rattle.part_groups.specs.PartsEnclosed.{Numbered}
use Rattle.part_groups.proofs.PartsStand.{DetailStands, detail-stands, detail-refuses}

-- ---- the text piece

piece-by : (p : ℕ) (x : Found) → Known (just slash x.bytes)
    → ((piece_at p x).place ≡ cond (just slash x.bytes) 0 (p + x.place)) × ((piece_at p x).bytes ≡ cond (just slash x.bytes) [] x.bytes)
unfolding piece_at
piece-by p x (holds t) = (rw t, rw t)
piece-by p x (fails t) = (rw t, rw t)

-- a part of a part
part-of-part : (s : Bytes) (a e i m : ℕ) → a ≤ e → i + m ≤ e - a → take m (drop i (take (e - a) (drop a s))) ≡ take m (drop (a + i) s)
part-of-part s a e i m fits w =
    let part : drop i (take (e - a) (drop a s)) ≡ slice (a + i) e s = ap (λ (xs : Bytes). drop i xs) (part_slice a e s fits) ∙ drop-drop i a (take e s) in
    ap (λ (xs : Bytes). take m xs) part ∙ part-front s (a + i) e m (omega arith) ∙ sym (take-drop (a + i) m s)

-- in the record of a detail that stands there
module _ (file : Bytes) (from size : ℕ) (fits : from + size ≤ length file) where
  abbrev record_of : Bytes
  record_of = take size (drop from file)

  -- no text is found
  pub none-text : nothing_found ≡ in_detail text record_of → TextIs file from size (record { start = record { 0 = from }; length = 0 })
  unfolding piece_at one_of
  none-text e =
      let here : from ≡ from + 0 = omega arith in
      record { answer = rw (← e) (ap (λ (k : ℕ). record { place = k; bytes = [] }) here); inside = omega (arith, fits) }

  -- one is found at s, n bytes long
  module _ (s n : ℕ) (e : record { place = s; bytes = take n (drop s record_of) } ≡ in_detail text record_of) (within : s + n ≤ length record_of)
      (b : Bool) (t : b ≡ just slash (take (s + n - s) (drop s record_of))) where
    tested : b ≡ just slash (in_detail text record_of).bytes
    tested = let n-is : s + n - s ≡ n = omega arith in t ∙ ap (λ (m : ℕ). just slash (take m (drop s record_of))) n-is ∙ ap (λ (x : Found). just slash x.bytes) e

    short : s + n ≤ size
    short = omega (arith, within, length-take size (drop from file))

    -- a lone slash is none
    pub slash-text : b ≡ true → TextIs file from size (record { start = record { 0 = 0 }; length = 0 })
    unfolding piece_at
    slash-text h = record { answer = rw (sym tested ∙ h); inside = omega arith }

    pub some-text : b ≡ false → TextIs file from size (record { start = record { 0 = from + s }; length = n })
    unfolding piece_at
    some-text h =
        let size-is : from + size - from ≡ size = omega arith in
        let part = rw size-is at (part-of-part file from (from + size) s n (omega arith) (omega (arith, short))) in
        record {
          answer = rw (sym tested ∙ h, ← part) (ap (λ (x : Found). record { place = from + x.place; bytes = x.bytes }) e);
          inside = omega (arith, fits, short);
        }

-- ---- a detail that stands

module _ (file : Bytes) (x : Placed) (s : DetailStands file x) where
  abbrev rec : Bytes
  rec = take (length (record_bytes x.records)) (drop x.place file)

  found : (k : Kind) → in_detail k rec ≡ record { place = (the k s.fields).place; bytes = (the k s.fields).bytes }
  unfolding in_detail
  found k = ap (λ (r : Record). seek_lines k (fields_of detail) r) s.lines ∙ sym (found-is k detail s.record_of s.fields s.walked)

  found-bytes : (k : Kind) → (in_detail k rec).bytes ≡ (the k s.fields).bytes
  found-bytes k = ap (λ (y : Found). y.bytes) (found k)

  fields-are : first_fields detail x.records ≡ s.fields
  unfolding first_fields fields_in
  fields-are = ap (λ (rs : List Record). first_fields detail rs) s.one ∙ rw s.walked

  module _ (ty : ℕ) (am : Amount) (ts tl : ℕ) (t : ty ≡ number (in_detail detail_type rec).bytes) (m : am ≡ amount_in (in_detail amount rec).bytes)
      (p : record { place = ts; bytes = take tl (drop ts file) } ≡ piece_at x.place (in_detail text rec)) (fits : ts + tl ≤ length file) where
    piece : record { place = ts; bytes = take tl (drop ts file) } ≡ piece_at x.place (record { place = (the text s.fields).place; bytes = (the text s.fields).bytes })
    piece = p ∙ ap (piece_at x.place) (found text)

    text-is : take tl (drop ts file) ≡ (detail_in x).text_bytes
    unfolding detail_in
    text-is =
        ap (λ (y : Found). y.bytes) piece
        ∙ (piece-by x.place (record { place = (the text s.fields).place; bytes = (the text s.fields).bytes }) (known _)).1
        ∙ ap (λ (fs : List Field). cond (just slash (the text fs).bytes) [] (the text fs).bytes) (sym fields-are)

    answer-is : record { refusal = not_refused; type = ty; amount = am; text_start = ts; text_length = tl } ≡ detail_answer (fine (detail_in x))
    unfolding detail_answer detail_in
    answer-is =
        let fs = s.fields in
        let type-eq : ty ≡ number (the detail_type fs).bytes = t ∙ ap number (found-bytes detail_type) in
        let amount-eq : am ≡ amount_in (the amount fs).bytes = m ∙ ap amount_in (found-bytes amount) in
        let place-eq : ts ≡ cond (just slash (the text fs).bytes) 0 (x.place + (the text fs).place) =
        ap (λ (y : Found). y.place) piece ∙ (piece-by x.place (record { place = (the text fs).place; bytes = (the text fs).bytes }) (known _)).0 in
        let length-eq : tl ≡ length (detail_in x).text_bytes = sym (length-take-le tl (drop ts file) (omega (arith, length-drop ts file))) ∙ ap length text-is in
        rw (type-eq, amount-eq, place-eq, length-eq, fields-are)

-- ---- the call

-- refused
no-detail : (why : Refusal) (o : Outcome Placed) → part_meant (Err why) ≡ part_answer o
    → (detail_meant (Err why) ≡ detail_answer (o >>= λ x. fine (detail_in x))) × ([] ≡ (or_else (o >>= λ x. fine (detail_in x)) no_detail).text_bytes)
unfolding part_answer detail_answer
no-detail why (refused w) e = (ap (λ (q : PartAnswer). record { refusal = q.refusal; type = 0; amount = empty; text_start = 0; text_length = 0 }) e, refl)
no-detail why (fine x) e = absurd (some_number why (ap (λ (q : PartAnswer). q.refusal.number) e))

pub detail-refused : (why : Refusal) (file : Bytes) (g a d : ℕ) → part_meant (Err why) ≡ part_answer (detail_part_at file g a d)
    → (detail_meant (Err why) ≡ detail_of_file file g a d) × ([] ≡ (or_else (detail_at file g a d) no_detail).text_bytes)
unfolding detail_of_file detail_at
detail-refused why file g a d e = no-detail why (detail_part_at file g a d) e

-- found: the part's bytes are the record's
module _ (file : Bytes) (p : Part) (d : DetailAnswer) where
  abbrev part : Bytes
  part = take p.length (drop p.start.0 file)

  -- what the code found in it
  pub record Reads : Type 0 where
    pub type-is : d.type_code ≡ number (in_detail detail_type part).bytes
    pub amount-is : amount_meant d.amount ≡ amount_in (in_detail amount part).bytes
    pub text-is : TextIs file p.start.0 p.length d.text

  abbrev Answers : Outcome Placed → Type 0
  Answers o =
      (detail_meant (Ok d) ≡ detail_answer (o >>= λ x. fine (detail_in x)))
      × (take d.text.length (drop d.text.start.0 file) ≡ (or_else (o >>= λ x. fine (detail_in x)) no_detail).text_bytes)

  answers : (x : Placed) → part_meant (Ok p) ≡ part_answer (fine x) → DetailStands file x → Reads → Answers (fine x)
  unfolding part_answer part_bytes
  answers x e s r =
      let at : p.start.0 ≡ x.place = ap (λ (q : PartAnswer). q.start) e in
      let size : p.length ≡ length (record_bytes x.records) = ap (λ (q : PartAnswer). q.len) e in
      let bytes : part ≡ take (length (record_bytes x.records)) (drop x.place file) = rw (size, at) in
      let t = r.type-is ∙ ap (λ (bs : Bytes). number (in_detail detail_type bs).bytes) bytes in
      let m = r.amount-is ∙ ap (λ (bs : Bytes). amount_in (in_detail amount bs).bytes) bytes in
      let piece =
      r.text-is.answer
      ∙ ap (λ (bs : Bytes). piece_at p.start.0 (in_detail text bs)) bytes
      ∙ ap (λ (k : ℕ). piece_at k (in_detail text (take (length (record_bytes x.records)) (drop x.place file)))) at in
      let starts = d.text.start.0 in
      let size-of = d.text.length in
      (answer-is file x s d.type_code _ starts size-of t m piece r.text-is.inside, text-is file x s d.type_code _ starts size-of t m piece r.text-is.inside)

  answers_by : (o : Outcome Placed) → part_meant (Ok p) ≡ part_answer o → Numbered o → ((x : Placed) → o ≡ fine x → DetailStands file x) → Reads → Answers o
  unfolding part_answer
  answers_by (refused why) e never stands r = let y : 0 ≡ why.number = ap (λ (q : PartAnswer). q.refusal.number) e in let x = never why refl in absurd (omega arith)
  answers_by (fine x) e never stands r = answers x e (stands x refl) r

  pub detail-found : (g a n : ℕ) → part_meant (Ok p) ≡ part_answer (detail_part_at file g a n) → Reads
      → (detail_meant (Ok d) ≡ detail_of_file file g a n) × (take d.text.length (drop d.text.start.0 file) ≡ (or_else (detail_at file g a n) no_detail).text_bytes)
  unfolding detail_of_file detail_at
  detail-found g a n e r = answers_by (detail_part_at file g a n) e (detail-refuses file g a n) (detail-stands file g a n) r
