-- What a call of combine or split that was not refused says. Assumes nothing.
use Prim.Native.Nat.{ℕ, ◌+◌, ◌≤◌}
use mathlib.Core.Path.{◌≡◌, sym, ap, subst, ◌∙◌}
use mathlib.Core.Bool.{Bool}
use mathlib.Core.List.{List, ◌++◌}
use native.Mathlib.Omega.{arith}
use lib.Dec.{T, leb, leb→le}
use lib.ListN.{length, drop}
use lib.Seq.{take-append_seam}
use Rattle.rules.specs.Bytes.{Bytes}
use Rattle.rules.specs.Outcome.{Outcome, refused, fine, check}
use Rattle.rules.specs.Lines.{Record}
use Rattle.rules.specs.Numbers.{magnitudes}
use Rattle.rules.specs.Limits.{most, longest_file}
use Rattle.rules.specs.Totals.{Summary}
use Rattle.rules.specs.Verdict.{judge}
use Rattle.rules.specs.Parts.{header_in, groups_in}
use Rattle.rules.specs.Combine.{with_trailer, concat, limit_of, lines_within, has_room, fitting, combined, answered, which_file, combine}
use Rattle.rules.specs.Split.{is_name, groups_for, split_out, split}
use Rattle.rules.proofs.Binds.{first_fine, from-bind, then-fine, check-fine, fine-same}
use Rattle.rules.proofs.Tests.{and_left}
use Rattle.laws.specs.LawWords.{NotRefused, written}
use Rattle.laws.proofs.Lists.{concat-append}
use Rattle.laws.proofs.ReaderNumbers.{last_number}
use Rattle.laws.proofs.Refusals.{By, bind-by, then_by, check-by, checked-by, by_reader, judge-by}

-- ---- what a fine outcome says

-- what fits is the result itself, and it is not too long
fitting-says : (all : Bytes) (room : ℕ) (out : Bytes) → fitting all room ≡ fine out → (all ≡ out) × (length out ≤ longest_file)
unfolding fitting
fitting-says all room out h =
    let e : all ≡ out = fine-same all out (then-fine (has_room (length all) room) _ out h) in
    let room-fine = first_fine (has_room (length all) room) _ out h in
    (e, subst (λ (bs : Bytes). length bs ≤ longest_file) e (leb→le (length all) longest_file (check-fine (leb (length all) longest_file) 18 0 _ tt room-fine)))

-- two accepted files were combined, and this was written
pub record Combined (a b out : Bytes) : Type 0 where
  pub first : Summary
  pub second : Summary
  pub accepts-a : judge a ≡ fine first
  pub accepts-b : judge b ≡ fine second
  pub room : magnitudes first.sum + magnitudes second.sum ≤ most
  pub within : T (lines_within (limit_of (header_in a)) (concat (concat (groups_in b))))
  pub whole : out ≡ with_trailer (header_in a ++ concat (groups_in a ++ groups_in b))
  pub not-long : length out ≤ longest_file

combined-says : (a b : Bytes) (room : ℕ) (out : Bytes) → combined a b room ≡ fine out → Combined a b out
unfolding combined
combined-says a b room out h =
    from-bind (judge a) _ out h (λ s first h₁.
    from-bind (judge b) _ out h₁ (λ t second h₂.
    let fits = leb (magnitudes s.sum + magnitudes t.sum) most in
    let lines = lines_within (limit_of (header_in a)) (concat (concat (groups_in b))) in
    let h₃ = then-fine (check fits 10 0) _ out h₂ in
    let (e, not-long) = fitting-says (with_trailer (header_in a ++ (concat (groups_in a) ++ concat (groups_in b)))) room out (then-fine (check lines 18 0) _ out h₃) in
    record {
      first = s;
      second = t;
      accepts-a = first;
      accepts-b = second;
      room = leb→le (magnitudes s.sum + magnitudes t.sum) most (check-fine fits 10 0 _ out h₂);
      within = check-fine lines 18 0 _ out h₃;
      whole = sym e ∙ ap (λ (rs : List Record). with_trailer (header_in a ++ rs)) (sym (concat-append (groups_in a) (groups_in b)));
      not-long = not-long;
    }))

-- an accepted file was split for a name, and this was written
pub record SplitOff (name file out : Bytes) : Type 0 where
  pub is_name : T (is_name name)
  pub summary : Summary
  pub accepts : judge file ≡ fine summary
  pub whole : out ≡ with_trailer (header_in file ++ concat (groups_for name (groups_in file)))
  pub not-long : length out ≤ longest_file

split-says : (name file : Bytes) (room : ℕ) (out : Bytes) → split_out name file room ≡ fine out → SplitOff name file out
unfolding split_out
split-says name file room out h =
    from-bind (judge file) _ out (then-fine (check (is_name name) 16 0) _ out h) (λ s accepts rest.
    let (e, not-long) = fitting-says (with_trailer (header_in file ++ concat (groups_for name (groups_in file)))) room out rest in
    record { is_name = check-fine (is_name name) 16 0 _ out h; summary = s; accepts = accepts; whole = sym e; not-long = not-long })

-- ---- an answer that is no refusal

-- no call refuses by 0
abbrev numbered : ℕ → Bool
numbered n = leb 1 n

reader-numbered : {A : Type 0} (o : Outcome A) → By by_reader o → By numbered o
reader-numbered (refused why) h = and_left (leb 1 why.number) (leb why.number last_number) h
reader-numbered (fine a) h = tt

fitting-numbered : (all : Bytes) (room : ℕ) → By numbered (fitting all room)
unfolding fitting
fitting-numbered all room =
    then_by numbered (has_room (length all) room) _ (checked-by numbered (leb (length all) longest_file) 18 0 _ tt (check-by numbered (leb (length all) room) 15 0 tt)) tt

combined-numbered : (a b : Bytes) (room : ℕ) → By numbered (combined a b room)
unfolding combined
combined-numbered a b room =
    bind-by numbered (judge a) _ (reader-numbered (judge a) (judge-by a)) (λ s p.
    bind-by numbered (judge b) _ (reader-numbered (judge b) (judge-by b)) (λ t q.
    let fits = leb (magnitudes s.sum + magnitudes t.sum) most in
    let lines = lines_within (limit_of (header_in a)) (concat (concat (groups_in b))) in
    checked-by numbered fits 10 0 _ tt
    (checked-by numbered lines 18 0 _ tt (fitting-numbered (with_trailer (header_in a ++ (concat (groups_in a) ++ concat (groups_in b)))) room))))

split-numbered : (name file : Bytes) (room : ℕ) → By numbered (split_out name file room)
unfolding split_out
split-numbered name file room =
    checked-by numbered (is_name name) 16 0 _ tt
    (then_by numbered (judge file) _ (reader-numbered (judge file) (judge-by file))
    (fitting-numbered (with_trailer (header_in file ++ concat (groups_for name (groups_in file)))) room))

answer-fine : (o : Outcome Bytes) (which : ℕ) (before : Bytes) → By numbered o → NotRefused (answered o which before) → o ≡ fine (written (answered o which before))
unfolding answered
answer-fine (refused why) which before k h = absurd (omega (arith, leb→le 1 why.number k))
answer-fine (fine out) which before k h = ap (λ (bs : Bytes). fine bs) (sym (take-append_seam out (drop (length out) before)))

pub combine-says : (a b before : Bytes) → NotRefused (combine a b before) → Combined a b (written (combine a b before))
unfolding combine
combine-says a b before h =
    combined-says a b (length before) _ (answer-fine (combined a b (length before)) (which_file (judge a) (judge b)) before (combined-numbered a b (length before)) h)

pub split-call-says : (name file before : Bytes) → NotRefused (split name file before) → SplitOff name file (written (split name file before))
unfolding split
split-call-says name file before h =
    split-says name file (length before) _ (answer-fine (split_out name file (length before)) 0 before (split-numbered name file (length before)) h)
