-- A name that may be asked for, by its length and its bytes; and split by its first answers. Assumes nothing.
use Rattle.std.specs.Prelude.{Err}
use mathlib.Core.Path.{◌≡◌, refl, sym}
use mathlib.Core.Bool.{true, false}
use Prim.Native.Nat.{ℕ}
use Rattle.std.proofs.lemmas.Bool.{false≢true}
use lib.ListN.{length}
use Rattle.rules.specs.Bytes.{Bytes, between, clean}
use Rattle.rules.specs.Outcome as rules
use Rattle.rules.specs.Outcome.{Outcome, refused, refuse, fine}
use Rattle.rules.specs.Totals.{Summary}
use Rattle.rules.specs.Verdict.{judge}
use Rattle.rules.specs.Combine.{answered, fitting}
use Rattle.rules.specs.Split.{is_name, split_out, split}
use Rattle.join_groups.proofs.GroupOpens.{Opened, opened}
use Rattle.base_refusals.specs.declared.Refusal.{Refusal}
use Rattle.base_refusals.specs.RefusalMeaning.{refusal_meant}
use Rattle.join_split.specs.SplitAnswers.{answer_meant, is_fine, Accepts, Opens, split_result}

-- ---- a name

module _ (name : Bytes) where
  pub not-name : between 1 76 (length name) ≡ false → false ≡ is_name name
  unfolding is_name
  not-name e = sym (rw e)

  pub name-clean : between 1 76 (length name) ≡ true → is_name name ≡ clean name
  unfolding is_name
  name-clean e = rw e

-- ---- split's first answers

-- a refusal, told as the rules answer it
pub refused-told : (why : Refusal) (before : Bytes) → answer_meant (Err why) before ≡ answered (refused (refusal_meant why)) 0 before
unfolding answered
refused-told why before = refl

module _ (name file before : Bytes) where
  pub split-16 : is_name name ≡ false → answered (refuse 16 0) 0 before ≡ split name file before
  unfolding split split_out
  split-16 e = sym (rw e)

  module _ (e : is_name name ≡ true) where
    pub split-refused : (why : rules.Refusal) → judge file ≡ refused why → answered (refused why) 0 before ≡ split name file before
    unfolding split split_out
    split-refused why j = sym (rw (e, j))

    pub split-accepted : (s : Summary) → judge file ≡ fine s → answered (fitting (split_result name file) (length before)) 0 before ≡ split name file before
    unfolding split split_out split_result
    split-accepted s j = sym (rw (e, j))

-- ---- an accepted file

-- its summary
pub accepted-by : (file : Bytes) → Accepts file → (s : Summary) × (judge file ≡ fine s)
accepted-by file h = go (judge file) h refl
  where
    go : (o : Outcome Summary) → is_fine o ≡ true → judge file ≡ o → (s : Summary) × (judge file ≡ fine s)
    go (fine s) h e = (s, e)
    go (refused why) h e = absurd (false≢true h)

pub header-opens : (file : Bytes) (h : ℕ) → Opens file h → Opened file h
header-opens file h p = let (s, e) = accepted-by file p.0 in opened file s h e p.1
