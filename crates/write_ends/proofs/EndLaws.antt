-- The line that each end drafts is the one that the rules say, and so is what is written of it. Assumes nothing.
use mathlib.Core.Path.{◌≡◌, refl}
use mathlib.Core.Bool.{true, false}
use mathlib.Core.List.{List, [], ◌∷◌}
use mathlib.Core.Option.{none}
use Prim.Native.Nat.{ℕ, ◌+◌, ◌≤◌, min}
use native.Mathlib.Omega.{arith}
use native.Mathlib.Nat.{min-eq_left}
use lib.ListN.{length}
use Rattle.rules.specs.Bytes.{Bytes, slash}
use Rattle.rules.specs.Numbers.{Sum, zero_sum, decimal, total_bytes}
use Rattle.rules.specs.Outcome.{Outcome}
use Rattle.rules.specs.Lines.{Code, account_trailer, group_trailer, file_trailer}
use Rattle.rules.specs.Totals.{Summary}
use Rattle.rules.specs.Grammar.{fields_of}
use Rattle.rules.specs.Writer.{Call, end_account, end_group, end_file, Writer, given, plain, write}
use Rattle.base_quantities.specs.QuantityMeanings.{most_records}
use Rattle.laws_writer.proofs.Sound.{Sound, sound-says}
use Rattle.laws_writer.proofs.FieldsWritten.{simples}
use Rattle.write_line.specs.DraftMeaning.{Sofar, draft_of}
use Rattle.write_line.specs.DrawnLine.{drawn_of}
use Rattle.write_line.specs.declared.Draft.{Draft}
use Rattle.write_line.proofs.FieldChains.{no_text}
use Rattle.write_records.specs.RecordLines.{line_in, line_drawn}
use Rattle.write_records.proofs.LinesSaid.{line-said}
use Rattle.write_commit.proofs.LinesCommitted.{slash-drafts, none-wanted, answered, answers}
use Rattle.write_ends.specs.EndLines.{ended}

-- an end's line: the last of its fields is the number of records with itself, and a sound state has no more records than bytes
module _ (w : Writer) (out : Bytes) (call : Call) (c : Code) (f : Bytes) (fs : ℕ → List Bytes) (n : ℕ) (few : Sound w → n ≤ w.size) where
  end-written : (o : Outcome Sofar) (sum : Sum) → given w call ≡ plain c (f ∷ fs (n + 1)) → simples (fields_of c) ≡ true → no_text (fields_of c) ≡ true
      → length (fields_of c) ≡ length (f ∷ fs (n + 1)) → length (f ∷ fs (n + 1)) ≤ 8 → sum ≡ zero_sum → o ≡ line_in c (fields_of c) (f ∷ fs (min (n + 1) most_records)) slash
      → answered w out c o sum false ≡ write w call out
  end-written o sum g simple no_text size short z e =
      answers w out o sum call (plain c (f ∷ fs (n + 1))) false g z (λ s.
      let says = sound-says w s in
      let counted : min (n + 1) most_records ≡ n + 1 = min-eq_left (omega (arith, few says, says.size)) in
      slash-drafts c (fields_of c) f (fs (n + 1)) none false (none-wanted (fields_of c) (f ∷ fs (n + 1)) simple size) o no_text short (rw counted at e))

module _ (w : Writer) (out : Bytes) where
  pub account-end-written : (draft : Draft) (sum : Sum) (k : ℕ) → sum ≡ zero_sum → k ≡ min (w.account.records + 1) most_records
      → drawn_of draft ≡ line_drawn account_trailer (fields_of account_trailer) (total_bytes w.account.sum ∷ decimal k ∷ []) slash
      → answered w out account_trailer (draft_of draft) sum false ≡ write w end_account out
  unfolding given fields_of
  account-end-written draft sum k z m e =
      let line = line-said account_trailer (fields_of account_trailer) (total_bytes w.account.sum ∷ decimal k ∷ []) slash draft e in
      end-written w out end_account account_trailer (total_bytes w.account.sum) (λ n. decimal n ∷ []) w.account.records (λ s. s.in-account.records) (draft_of draft) sum
      refl refl refl refl (omega arith) z (rw m at line)

  pub group-end-written : ended w group_trailer w.group w.group.accounts out ≡ write w end_group out
  unfolding given fields_of ended
  group-end-written =
      let fs : ℕ → List Bytes = λ n. decimal w.group.accounts ∷ decimal n ∷ [] in
      end-written w out end_group group_trailer (total_bytes w.group.sum) fs w.group.records (λ s. s.in_group.records) _ _ refl refl refl refl (omega arith) refl refl

  pub file-end-written : ended w file_trailer w.file w.file.groups out ≡ write w end_file out
  unfolding given fields_of ended
  file-end-written =
      let fs : ℕ → List Bytes = λ n. decimal w.file.groups ∷ decimal n ∷ [] in
      end-written w out end_file file_trailer (total_bytes w.file.sum) fs w.file.records (λ s. s.in-file.records) _ _ refl refl refl refl (omega arith) refl refl

-- what `end` answers
pub end-answers : (w : Writer) (c : Code) (s : Summary) (n k : ℕ) (out : Bytes) (draft : Draft) (sum : Sum) → sum ≡ zero_sum → k ≡ min (s.records + 1) most_records
    → drawn_of draft ≡ line_drawn c (fields_of c) (total_bytes s.sum ∷ decimal n ∷ decimal k ∷ []) slash
    → answered w out c (draft_of draft) sum false ≡ ended w c s n out
unfolding ended
end-answers w c s n k out draft sum z m e = rw (line-said c (fields_of c) (total_bytes s.sum ∷ decimal n ∷ decimal k ∷ []) slash draft e, z, m)
