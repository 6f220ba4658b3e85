-- What the call for an item answers C, in the rules' terms: the same numbers, figure by figure; where refused, every figure but number and place is 0. Assumes nothing.
use Rattle.std.specs.Prelude.{ℕ}
use Rattle.std.proofs.Math.Option.{Option, none, some}
use Rattle.rules.specs.Amounts.{magnitude_of}
use Rattle.rules.specs.Answers.{ItemAnswer, form_number}
use Rattle.c_items.specs.declared.Bai2Item.{Bai2Item}

-- whether an item count is given, 1 or 0, and which, or 0
abbrev pub is_given : Option ℕ → ℕ
is_given none = 0
is_given (some n) = 1

abbrev pub or_zero : Option ℕ → ℕ
or_zero none = 0
or_zero (some n) = n

abbrev pub item_figures : ItemAnswer → Bai2Item
item_figures i =
    record {
      number = i.refusal.number;
      place = i.refusal.place;
      type_code = i.type;
      amount_form = form_number i.amount;
      amount = magnitude_of i.amount;
      count_given = is_given i.count;
      count = or_zero i.count;
    }
