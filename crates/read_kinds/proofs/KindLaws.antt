-- Kinds of field by their numbers: two of the same number are the same. Assumes nothing.
use Prim.Native.Nat.{ℕ}
use mathlib.Core.Path.{◌≡◌, refl, sym, ap, ◌∙◌}
use mathlib.Core.Bool.{true}
use mathlib.Core.List.{List, [], ◌∷◌}
use lib.ListN.{get_or}
use borrow.Author.Tests.{eqb-true}
use Rattle.rules.specs.Grammar.{Kind, name, reference, ultimate_receiver, date, time, time_or_none, file_number, physical_length, block_size, version, group_status, currency, modifier, first_type, further_type, status_amount, amount, item_count, funds, detail_type, text, further_text, split_amount, pair_count, days, day_amount, total, count, records, nothing, kind_number, same_kind}

abbrev kinds_in_order : List Kind
kinds_in_order =
    nothing ∷ name ∷ reference ∷ ultimate_receiver ∷ date ∷ time ∷ time_or_none ∷ file_number ∷ physical_length ∷ block_size ∷ version ∷ group_status ∷ currency ∷ modifier ∷ first_type ∷ further_type
    ∷ status_amount ∷ amount ∷ item_count ∷ funds ∷ detail_type ∷ text ∷ further_text ∷ split_amount ∷ pair_count ∷ days ∷ day_amount ∷ total ∷ count ∷ records ∷ []

numbered : (k : Kind) → get_or kinds_in_order (kind_number k) nothing ≡ k
numbered name = refl
numbered reference = refl
numbered ultimate_receiver = refl
numbered date = refl
numbered time = refl
numbered time_or_none = refl
numbered file_number = refl
numbered physical_length = refl
numbered block_size = refl
numbered version = refl
numbered group_status = refl
numbered currency = refl
numbered modifier = refl
numbered first_type = refl
numbered further_type = refl
numbered status_amount = refl
numbered amount = refl
numbered item_count = refl
numbered funds = refl
numbered detail_type = refl
numbered text = refl
numbered further_text = refl
numbered split_amount = refl
numbered pair_count = refl
numbered days = refl
numbered day_amount = refl
numbered total = refl
numbered count = refl
numbered records = refl
numbered nothing = refl

pub same_kind_lem : (k kd : Kind) → same_kind k kd ≡ true → kd ≡ k
same_kind_lem k kd e = sym (numbered kd) ∙ ap (λ (n : ℕ). get_or kinds_in_order n nothing) (sym (eqb-true (kind_number k) (kind_number kd) e)) ∙ numbered k
