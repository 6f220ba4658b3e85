-- After an accepted file's header its groups stand ahead. Assumes nothing.
use Prim.Native.Nat.{ℕ, ◌+◌, ◌≤◌}
use native.Mathlib.Omega.{arith}
use native.Mathlib.Nat.{zero-add}
use mathlib.Core.Path.{◌≡◌, sym, ap, subst, ◌∙◌}
use mathlib.Core.List.{List, [], ◌∷◌, ◌++◌, append-nil}
use lib.Dec.{T}
use lib.ListN.{length, take, drop}
use Rattle.rules.specs.Bytes.{Bytes, same_bytes}
use Rattle.rules.specs.Numbers.{magnitudes}
use Rattle.rules.specs.Limits.{most, longest_file}
use Rattle.rules.specs.Outcome.{fine}
use Rattle.rules.specs.Lines.{lf, Line, lines_of, file_header, file_trailer, code_bytes, begins, Record, record_size, record_bytes, file_records}
use Rattle.rules.specs.Totals.{Summary, no_summary, ◌⊞◌}
use Rattle.rules.specs.Verdict.{judge}
use Rattle.rules.specs.Parts.{heads, Parts, cut_at, in_groups, header_in, groups_in, size_of_all}
use Rattle.rules.specs.Combine.{summary_of_all, lines_within, limit_of, concat}
use Rattle.rules.proofs.Accepted.{accepted}
use Rattle.read_lines.specs.LineLengths.{first_record}
use Rattle.laws.specs.LawWords.{All, GroupControlled, IsGroup, between}
use Rattle.laws.proofs.Lists.{all_from, concat-append}
use Rattle.laws.proofs.PartCuts.{cut-groups}
use Rattle.laws.proofs.Envelopes.{groups-begin}
use Rattle.laws.proofs.Shape.{is-file, one-header}
use Rattle.laws.proofs.SummarySums.{summary-append, within-left, within-right}
use Rattle.laws.proofs.ControlTotals.{file-controlled}
use Rattle.laws.proofs.RunsOfRecords.{through}
use Rattle.laws.proofs.Groups.{GoodGroup, Decomposed, decomposed}
use Rattle.join_groups.proofs.GroupsAhead.{Stands, Ahead}
use Rattle.join_groups.proofs.GroupRecords.{first-is, first-lines, records-drop, records-take, records-fit}

-- ---- each group stands

stands_of : (limit : ℕ) (g : List Record) → GoodGroup g → GroupControlled g → T (lines_within limit (concat g)) → magnitudes (summary_of_all g).sum ≤ most → Stands g
stands_of limit g a c w m =
    record {
      is-group = a.is-group;
      kept = a.kept;
      header-walked = (through a.is-group.enclosed (between limit no_summary) (between limit (no_summary ⊞ summary_of_all g)) (a.runs-anywhere 0 limit no_summary w (omega arith))).opens.walked;
      controlled = c.of-group;
    }

first_small : (s t : Summary) → magnitudes (s ⊞ t).sum ≤ most → (magnitudes s.sum ≤ most) × (magnitudes t.sum ≤ most)
unfolding ◌⊞◌
first_small s t h = (omega arith, omega arith)

all-stand : (limit : ℕ) (gs : List (List Record)) → All GoodGroup gs → All GroupControlled gs → T (lines_within limit (concat (concat gs)))
    → magnitudes (summary_of_all (concat gs)).sum ≤ most → All Stands gs
unfolding concat
all-stand limit [] a c w m = tt
all-stand limit (g ∷ gs) a c w m =
    let w' : T (lines_within limit (concat g ++ concat (concat gs))) = subst (λ (ls : List Line). T (lines_within limit ls)) (concat-append g (concat gs)) w in
    let small = first_small (summary_of_all g) (summary_of_all (concat gs)) (subst (λ (u : Summary). magnitudes u.sum ≤ most) (summary-append g (concat gs)) m) in (
      stands_of limit g a.0 c.0 (within-left limit (concat g) (concat (concat gs)) w') small.0,
      all-stand limit gs a.1 c.1 (within-right limit (concat g) (concat (concat gs)) w') small.1,
    )

-- ---- groups cut from records

-- a record before groups that is none of theirs
abbrev other : Record
other = record { body = code_bytes file_header; line_end = lf } ∷ []

cut_of : (gs : List (List Record)) (t : Record) → All IsGroup gs → T (heads file_trailer t) → (in_groups (concat gs ++ (t ∷ []))).parts ≡ gs
unfolding in_groups cut_at begins same_bytes
cut_of gs t a h = ap (λ (p : Parts). p.parts) (cut-groups other gs t tt (groups-begin gs a) h)

all-groups : (gs : List (List Record)) → All Stands gs → All IsGroup gs
all-groups gs a = all_from IsGroup Stands (λ g s. s.is-group) gs a

-- bytes whose records are these groups and a 99
ahead_of : (xs : Bytes) (gs : List (List Record)) (t : Record) → file_records xs ≡ concat gs ++ (t ∷ []) → T (heads file_trailer t) → All Stands gs
    → magnitudes (summary_of_all (concat gs)).sum ≤ most
    → Ahead xs × (groups_in xs ≡ gs)
unfolding groups_in
ahead_of xs gs t reads is-t a b =
    let e : groups_in xs ≡ gs = ap (λ (rs : List Record). (in_groups rs).parts) reads ∙ cut_of gs t (all-groups gs a) is-t in (
      record {
        trailer = t;
        is-trailer = is-t;
        reads = rw e reads;
        groups = rw e a;
        bounded = rw e b;
      },
      e,
    )

-- ---- the file after its header

-- h bytes in front are the header, and the groups stand after it
pub record Opened (file : Bytes) (h : ℕ) : Type 0 where
  pub decomposition : Decomposed file
  pub inside : h ≤ length file
  pub not-too-long : length file ≤ longest_file
  pub header : take h file ≡ record_bytes (header_in file)
  pub header-reads : lines_of (take h file) ≡ concat (header_in file)
  pub ahead : Ahead (drop h file)
  pub groups : groups_in (drop h file) ≡ groups_in file
  pub after : file_records (drop h file) ≡ concat (groups_in file) ++ (decomposition.trailer ∷ [])

less : (a b c : Summary) → magnitudes (a ⊞ (b ⊞ c)).sum ≤ most → magnitudes b.sum ≤ most
unfolding ◌⊞◌
less a b c h = omega arith

pub opened : (file : Bytes) (s : Summary) (h : ℕ) → judge file ≡ fine s → h ≡ 0 + record_size (first_record (lines_of (drop 0 file))) → Opened file h
unfolding concat size_of_all
opened file s h accepts e =
    let d = decomposed file s accepts in
    let i = is-file file s accepts in
    let one = one-header file i in
    let head = i.enclosed.header in
    let gs = groups_in file in
    let t = d.trailer in
    let reads : file_records file ≡ (head ∷ []) ++ (concat gs ++ (t ∷ [])) = d.records ∙ ap (λ (hs : List Record). hs ++ (concat gs ++ (t ∷ []))) one in
    let size : h ≡ record_size head = e ∙ zero-add _ ∙ ap record_size (first-is file head (concat gs ++ (t ∷ [])) reads) in
    let whole : h ≡ size_of_all (head ∷ []) = size ∙ omega arith in
    let after : file_records (drop h file) ≡ concat gs ++ (t ∷ []) = ap (λ (n : ℕ). file_records (drop n file)) whole ∙ records-drop (head ∷ []) (concat gs ++ (t ∷ [])) file reads in
    let sums : magnitudes (summary_of_all (head ∷ []) ⊞ (summary_of_all (concat gs) ⊞ summary_of_all (t ∷ []))).sum ≤ most =
    subst (λ (u : Summary). magnitudes u.sum ≤ most)
    (ap summary_of_all reads ∙ summary-append (head ∷ []) (concat gs ++ (t ∷ [])) ∙ ap (λ (u : Summary). summary_of_all (head ∷ []) ⊞ u) (summary-append (concat gs) (t ∷ []))) d.bounded in
    let bound = less (summary_of_all (head ∷ [])) (summary_of_all (concat gs)) (summary_of_all (t ∷ [])) sums in
    let rest = ahead_of (drop h file) gs t after d.is-trailer (all-stand (limit_of (header_in file)) gs d.groups (file-controlled file s accepts).of-groups d.within bound) bound in
    record {
      decomposition = d;
      inside = rw whole (records-fit (head ∷ []) (concat gs ++ (t ∷ [])) file reads);
      not-too-long = (accepted file s accepts).not-too-long;
      header = rw (whole, one) (records-take (head ∷ []) (concat gs ++ (t ∷ [])) file reads);
      header-reads = rw (size, one) (first-lines file head (concat gs ++ (t ∷ [])) reads ∙ sym (append-nil head));
      ahead = rest.0;
      groups = rest.1;
      after = after;
    }
