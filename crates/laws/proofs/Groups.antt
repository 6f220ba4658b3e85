-- An accepted file is its header, good groups and a 99, and what is known of each; good groups stay good where some are left out. Assumes nothing.
use Prim.Native.Nat.{ℕ, ◌+◌, ◌≤◌, zero-le}
use mathlib.Core.Path.{◌≡◌, refl, sym, ap, subst, ◌∙◌}
use mathlib.Core.Bool.{Bool, true, false, cond}
use mathlib.Core.List.{List, [], ◌∷◌, ◌++◌, append-nil}
use lib.Dec.{T}
use lib.ListN.{length}
use Rattle.rules.specs.Bytes.{Bytes, same_bytes}
use Rattle.rules.specs.Outcome.{fine}
use Rattle.rules.specs.Lines.{Code, file_header, group_header, file_trailer, Record, file_records}
use Rattle.rules.specs.Numbers.{magnitudes}
use Rattle.rules.specs.Limits.{most}
use Rattle.rules.specs.Totals.{Summary, adding, of_record}
use Rattle.rules.specs.Order.{among}
use Rattle.rules.specs.Verdict.{State, start, limit_after, step, run, judge}
use Rattle.rules.specs.Parts.{heads, header_in, groups_in, fields_in, first_fields, receiver_of}
use Rattle.rules.specs.Combine.{summary_of, summary_of_all, lines_within, limit_of, concat}
use Rattle.rules.specs.Split.{groups_for}
use Rattle.rules.proofs.Accepted.{accepted}
use Rattle.laws.specs.LawWords.{All, IsGroup, IsFile, between, RunsAnywhere, only_lines, Kept, Of}
use Rattle.laws.proofs.Lists.{all-joined, all_from}
use Rattle.laws.proofs.Codes.{of-each}
use Rattle.laws.proofs.PartCuts.{group_codes, file_codes}
use Rattle.laws.proofs.Envelopes.{group-codes}
use Rattle.laws.proofs.Shape.{is-file, one-header, file-codes}
use Rattle.laws.proofs.SummarySums.{add_none, none-add, summary-as}
use Rattle.laws.proofs.RecordsTaken.{Taken}
use Rattle.laws.proofs.RunsOfRecords.{run-one, Through, through, run-sum, run-bounded, run-limit, run-within, after-header, groups-anywhere}
use Rattle.laws.proofs.KeptBytes.{kept-left, kept-right, kept-both, file-kept}
use Rattle.laws.proofs.WalkedFields.{no-amounts, limit-48}

-- ---- good groups and good headers

-- a 02, accounts and a 98; read as itself wherever its bytes stand before a line that isn't an 88; and it runs anywhere
pub record GoodGroup (g : List Record) : Type 0 where
  pub is-group : IsGroup g
  pub kept : Kept g
  pub runs-anywhere : RunsAnywhere g

-- one 01, read as itself too; it runs at the start of a file, sets the limit, which is at least 48, and adds its lines
abbrev pub OneHeader : List Record → Type 0
OneHeader [] = ⊥
OneHeader (h ∷ []) = T (heads file_header h)
OneHeader (h ∷ q ∷ rs) = ⊥

pub record GoodHeader (hs : List Record) : Type 0 where
  pub one : OneHeader hs
  pub kept : Kept hs
  pub runs : (p : ℕ) → run p start hs ≡ fine (between (limit_of hs) (summary_of_all hs))
  pub roomy : 48 ≤ limit_of hs
  pub adds : summary_of_all hs ≡ only_lines (length (concat hs))

-- an accepted file
pub record Decomposed (file : Bytes) : Type 0 where
  pub header : GoodHeader (header_in file)
  pub groups : All GoodGroup (groups_in file)
  pub trailer : Record
  pub is-trailer : T (heads file_trailer trailer)
  pub trailer-adds : summary_of trailer ≡ only_lines (length trailer)
  pub records : file_records file ≡ header_in file ++ (concat (groups_in file) ++ (trailer ∷ []))
  -- no line of the groups is over the limit, and the magnitudes are within the largest
  pub within : T (lines_within (limit_of (header_in file)) (concat (concat (groups_in file))))
  pub bounded : magnitudes (summary_of_all (file_records file)).sum ≤ most

-- ---- every accepted file is so

-- a 01 or a 99 adds its lines
lines-only : (c : Code) (r : Record) → T (among c (file_header ∷ file_trailer ∷ [])) → T (heads c r) → summary_of r ≡ only_lines (length r)
unfolding among same_bytes of_record adding
lines-only c r m h =
    summary-as c r h
    ∙ of-each (λ b. of_record b r (fields_in b r) ≡ only_lines (length r)) (file_header ∷ file_trailer ∷ [])
    (rw (no-amounts file_header r tt), (rw (no-amounts file_trailer r tt), tt)) c m

make-good : (gs : List (List Record)) → All IsGroup gs → Kept (concat gs) → All RunsAnywhere gs → All GoodGroup gs
unfolding concat
make-good [] a k r = tt
make-good (g ∷ gs) a k r = (
  record { is-group = a.0; kept = kept-left g (concat gs) k; runs-anywhere = r.0 },
  make-good gs a.1 (kept-right g (concat gs) k) r.1,
)

-- the state after the 01
opened-by : (h : Record) (t : State) → Taken file_header start h t → t ≡ between (limit_of (h ∷ [])) (summary_of_all (h ∷ []))
unfolding limit_of limit_after first_fields summary_of_all same_bytes
opened-by h t x = x.next ∙ rw (add_none (summary_of h), none-add (summary_of h))

good-header : (h : Record) (t : State) → T (heads file_header h) → step start h ≡ fine t → Taken file_header start h t → Kept (h ∷ []) → GoodHeader (h ∷ [])
unfolding limit_of first_fields summary_of_all concat among same_bytes
good-header h t is-h steps x kept =
    record {
      one = is-h;
      kept = kept;
      runs = λ p. run-one p start t h steps ∙ ap (λ (y : State). fine y) (opened-by h t x);
      roomy = limit-48 h (fields_in file_header h) x.walked;
      adds = add_none (summary_of h) ∙ lines-only file_header h tt is-h ∙ simp append-nil;
    }

module _ (file : Bytes) (i : IsFile file) (last : State) (runs : run 0 start (file_records file) ≡ fine last) where
  abbrev h : Record
  h = i.enclosed.header

  abbrev t : Record
  t = i.enclosed.trailer

  abbrev gs : List (List Record)
  gs = groups_in file

  went : Through i.enclosed start last
  went = through i.enclosed start last runs

  all-kept : Kept (h ∷ concat gs)
  all-kept = file-kept file h (concat gs) file_trailer t i.enclosed.whole i.enclosed.is-header i.enclosed.is-trailer

  abbrev codes : Record → Type 0
  codes r = Of (group_header ∷ group_codes) r

  inner-codes : All codes (concat gs)
  inner-codes = all-joined codes gs (all_from (All codes) IsGroup group-codes gs i.groups)

  lines-within : T (lines_within (limit_of (h ∷ [])) (concat (concat gs)))
  lines-within =
      subst (λ (y : State). T (lines_within y.limit (concat (concat gs)))) (opened-by h went.opened went.opens)
      (run-within (concat gs) went.opened went.last inner-codes went.inner)

  limit-stays : last.limit ≡ limit_of (h ∷ [])
  unfolding limit_after same_bytes
  limit-stays =
      ap (λ (y : State). y.limit) went.closes.next
      ∙ run-limit (concat gs) went.opened went.last inner-codes went.inner
      ∙ ap (λ (y : State). y.limit) (opened-by h went.opened went.opens)

  sums : last.file ≡ summary_of_all (file_records file)
  unfolding among
  sums =
      run-sum (λ y. y.file) (file_header ∷ file_codes) (λ y r. (refl, (refl, (refl, (refl, (refl, (refl, (refl, tt)))))))) (file_records file) start last (file-codes file i) runs
      ∙ none-add (summary_of_all (file_records file))

  anywhere : All RunsAnywhere gs
  anywhere = groups-anywhere gs went.opened went.last i.groups (after-header start went.opened h went.opens) went.inner

  decompose : Decomposed file
  unfolding among same_bytes
  decompose =
      let e = one-header file i in
      record {
        header = subst GoodHeader (sym e) (good-header h went.opened i.enclosed.is-header went.begins went.opens (kept-left (h ∷ []) (concat gs) all-kept));
        groups = make-good gs i.groups (kept-right (h ∷ []) (concat gs) all-kept) anywhere;
        trailer = t;
        is-trailer = i.enclosed.is-trailer;
        trailer-adds = lines-only file_trailer t tt i.enclosed.is-trailer;
        records = i.enclosed.whole ∙ rw e;
        within = subst (λ (hs : List Record). T (lines_within (limit_of hs) (concat (concat gs)))) (sym e) lines-within;
        bounded =
            subst (λ (y : Summary). magnitudes y.sum ≤ most) sums
            (run-bounded (file_header ∷ file_codes) (file_records file) start last (file-codes file i) runs (zero-le));
      }

pub decomposed : (file : Bytes) (s : Summary) → judge file ≡ fine s → Decomposed file
decomposed file s h = let a = accepted file s h in decompose file (is-file file s h) a.last a.runs

-- the summary is what the records add
pub summary-is : (file : Bytes) (s : Summary) → judge file ≡ fine s → s ≡ summary_of_all (file_records file)
summary-is file s h = let a = accepted file s h in sym a.summary ∙ sums file (is-file file s h) a.last a.runs

-- the limit at its end is what its header gave
pub limit_is : (file : Bytes) (s : Summary) → judge file ≡ fine s → (last : State) → run 0 start (file_records file) ≡ fine last → last.limit ≡ limit_of (header_in file)
limit_is file s h last runs = let i = is-file file s h in limit-stays file i last runs ∙ ap limit_of (sym (one-header file i))

-- ---- some of the groups

pub good-kept : (gs : List (List Record)) → All GoodGroup gs → Kept (concat gs)
unfolding concat
good-kept [] a = record { wholes = tt; are-records = tt }
good-kept (g ∷ gs) a = kept-both g (concat gs) a.0.kept (good-kept gs a.1)

pub good-for : (name : Bytes) (gs : List (List Record)) → All GoodGroup gs → All GoodGroup (groups_for name gs)
unfolding groups_for
good-for name [] a = tt
good-for name (g ∷ gs) a = either (same_bytes name (receiver_of g)) a.0 (good-for name gs a.1)
  where
    either : (t : Bool) → GoodGroup g → All GoodGroup (groups_for name gs) → All GoodGroup (cond t (g ∷ groups_for name gs) (groups_for name gs))
    either true b c = (b, c)
    either false b c = c
