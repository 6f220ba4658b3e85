-- One turn of a loop over the groups in front of any bytes, at the places that the code reaches. Assumes nothing.
use Prim.Native.Nat.{ℕ, ◌+◌, ◌-◌, ◌≤◌, ◌<◌}
use native.Mathlib.Omega.{arith}
use mathlib.Core.Path.{◌≡◌, sym, ap, ◌∙◌}
use mathlib.Core.Bool.{Bool, true, false}
use mathlib.Core.List.{List, [], ◌∷◌}
use lib.ListN.{length, take, drop, length-take, length-drop}
use lib.Seq.{drop-drop, length-take-le}
use Rattle.rules.specs.Bytes.{Bytes, same_bytes}
use Rattle.rules.specs.Lines.{lines_of, group_header, group_trailer, file_trailer, code_bytes, begins, Record, record_size, record_bytes, file_records}
use Rattle.rules.specs.Order.{among}
use Rattle.rules.specs.Parts.{heads, size_of_all}
use Rattle.rules.proofs.Tests.{same-eq}
use Rattle.read_lines.specs.LineLengths.{first_line, first_record}
use Rattle.read_lines.proofs.LineLengthLaws.{first_of}
use Rattle.read_lines.proofs.Fronts.{begins-front}
use Rattle.read_lines.proofs.OneRecord.{first_part}
use Rattle.find_lines.specs.LinesOfCode.{bytes_before}
use Rattle.laws.proofs.Codes.{of-own, not-of}
use Rattle.join_receivers.specs.NamedReceiver.{named}
use Rattle.join_groups.specs.GroupsTaken.{cut_after, first_in, last_in, in_front, named_in, groups_taken}
use Rattle.join_groups.proofs.GroupExtents.{Next, next, first-whole, first-heads, none}

three : (x y z : ℕ) (xs : Bytes) → same_bytes (x ∷ y ∷ z ∷ []) (take 3 xs) ≡ true → 3 ≤ length xs
three x y z xs e = omega (arith, ap length (same-eq (x ∷ y ∷ z ∷ []) (take 3 xs) (rw e tt)), length-take 3 xs)

module _ (xs : Bytes) (begun : same_bytes (code_bytes group_header) (take 3 xs) ≡ true) where
  some-code : 3 ≤ length xs
  some-code = three 48 50 44 xs begun

  -- the 02's own line is passed over
  far : 3 ≤ bytes_before group_trailer file_trailer (lines_of xs)
  unfolding bytes_before among same_bytes begins
  far =
      let l = first_line xs in
      let is-02 : begins group_header l ≡ true = begins-front group_header xs ∙ begun in
      let o = of-own group_header [] (l ∷ []) (rw is-02 tt) in
      let size = three 48 50 44 l.body is-02 in
      rw (first_of xs (omega (arith, some-code)), not-of (group_header ∷ []) group_trailer (l ∷ []) tt o, not-of (group_header ∷ []) file_trailer (l ∷ []) tt o) (omega arith)

-- ---- the places of a turn: the line at `at`, the 98 at t, and the end at e

pub spans : (s : Bytes) (at t e : ℕ) → same_bytes (code_bytes group_header) (take 3 (drop at s)) ≡ true
    → (t ≡ at + bytes_before group_trailer file_trailer (lines_of (drop at s))) × (t ≤ length s + (at - length s))
    → (e ≡ t + record_size (first_record (lines_of (drop t s)))) × (e ≤ length s + (t - length s))
    → (at + 3 ≤ t) × (t ≤ e) × (e ≤ length s) × (length (take (e - at) (drop at s)) ≡ e - at)
spans s at t e begun (p, p') (q, q') =
    let some = some-code (drop at s) begun in
    let further = far (drop at s) begun in
    let n = length-drop at s in
    (omega arith, omega arith, omega arith, length-take-le (e - at) (drop at s) (omega arith))

-- ---- what a turn passes

-- a group; and it is next of those that are taken for the name, or none of them
pub record TurnIs (name s : Bytes) (at t e : ℕ) (for-it : Bool) : Type 0 where
  pub group : List Record
  pub size : e - at ≡ length (record_bytes group)
  pub part : take (e - at) (drop at s) ≡ record_bytes group
  pub trailer : lines_of (take (e - t) (drop t s)) ≡ last_in group
  pub next-taken : for-it ≡ true → groups_taken name (drop at s) ≡ group ∷ groups_taken name (drop e s)
  pub left_out : for-it ≡ false → groups_taken name (drop at s) ≡ groups_taken name (drop e s)

module _ (s : Bytes) (at t e : ℕ) (begun : same_bytes (code_bytes group_header) (take 3 (drop at s)) ≡ true)
    (p : t ≡ at + bytes_before group_trailer file_trailer (lines_of (drop at s))) (q : e ≡ t + record_size (first_record (lines_of (drop t s)))) where
  abbrev xs : Bytes
  xs = drop at s

  some_bytes : 0 < length xs
  some_bytes = omega (arith, some-code xs begun)

  abbrev n : Next xs
  n = next xs some_bytes

  abbrev g : List Record
  g = n.group

  last-place : t ≡ at + size_of_all n.before
  last-place = p ∙ ap (λ (k : ℕ). at + k) n.last-starts

  from_last : drop t s ≡ drop (size_of_all n.before) xs
  from_last = ap (λ (k : ℕ). drop k s) last-place ∙ sym (drop-drop (size_of_all n.before) at s)

  last-size : e ≡ t + record_size (last_in g)
  last-size = q ∙ ap (λ (k : ℕ). t + k) (ap (λ (ys : Bytes). record_size (first_record (lines_of ys))) from_last ∙ n.last-ends)

  turn-size : e - at ≡ length (record_bytes g)
  turn-size = omega (arith, last-size, last-place, n.size)

  turn_last : lines_of (take (e - t) (drop t s)) ≡ last_in g
  turn_last = let size : e - t ≡ record_size (last_in g) = omega (arith, last-size) in rw (size, from_last) n.last-reads

  others-are : file_records (drop e s) ≡ n.others
  others-are =
      let k : at + length (record_bytes g) ≡ e = omega (arith, last-size, last-place, n.size) in
      ap (λ (m : ℕ). file_records (drop m s)) (sym k) ∙ ap file_records (sym (drop-drop (length (record_bytes g)) at s)) ∙ n.after

  in-front : in_front (cut_after (file_records xs)) ≡ g ∷ in_front (cut_after (file_records (drop e s)))
  unfolding in_front
  in-front =
      let is-02 : heads group_header (first_in g) ≡ true = ap (heads group_header) n.first ∙ first-heads xs ∙ begun in
      ap in_front n.cut ∙ rw (is-02, others-are)

  -- its 02 ends at h
  module _ (name : Bytes) (h : ℕ) (for-it : Bool) (header : h ≡ at + record_size (first_record (lines_of xs))) (asked : for-it ≡ named name (lines_of (take (h - at) xs))) where
    same_test : named name (first_in g) ≡ for-it
    same_test =
        let size : h - at ≡ record_size (first_record (lines_of xs)) = omega (arith, header) in
        let alone : lines_of (take (h - at) xs) ≡ first_in g = first_part xs (h - at) size some_bytes ∙ sym (n.first ∙ first-whole xs some_bytes) in
        sym (asked ∙ ap (λ (r : Record). named name r) alone)

    pub turn_is : TurnIs name s at t e for-it
    unfolding groups_taken named_in
    turn_is =
        record {
          group = g;
          size = turn-size;
          part = rw turn-size n.part;
          trailer = turn_last;
          next-taken = λ y. ap (named_in name) in-front ∙ rw (same_test ∙ y);
          left_out = λ y. ap (named_in name) in-front ∙ rw (same_test ∙ y);
        }

-- ---- the last group was the last

pub no_more : (name xs : Bytes) → same_bytes (code_bytes group_header) (take 3 xs) ≡ false → groups_taken name xs ≡ []
unfolding groups_taken named_in
no_more name xs e = ap (named_in name) (none xs e)
