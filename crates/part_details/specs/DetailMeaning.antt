-- What a detail's answer says in document 01's terms. Assumes nothing.
use Rattle.std.specs.Prelude.{◌+◌, ◌≤◌, ◌≡◌, Result, Ok, Err, length, take, drop}
use Rattle.rules.specs.Bytes.{Bytes}
use Rattle.rules.specs.Outcome.{not_refused}
use Rattle.rules.specs.Amounts.{empty}
use Rattle.rules.specs.Answers as rules
use Rattle.base_refusals.specs.declared.Refusal.{Refusal}
use Rattle.base_refusals.specs.RefusalMeaning.{refusal_meant}
use Rattle.base_amounts.specs.AmountsRead.{amount_meant}
use Rattle.part_groups.specs.declared.Part.{Part}
use Rattle.part_details.specs.declared.DetailAnswer.{DetailAnswer}

-- a detail: its figures; or its refusal
abbrev pub detail_meant : Result DetailAnswer Refusal → rules.DetailAnswer
detail_meant (Ok d) =
    record {
      refusal = not_refused;
      type = d.type_code;
      amount = amount_meant d.amount;
      text_start = d.text.start.0;
      text_length = d.text.length;
    }
detail_meant (Err why) = record { refusal = refusal_meant why; type = 0; amount = empty; text_start = 0; text_length = 0 }

-- where its text stands; an empty one, at 0, where it is refused
abbrev pub text_of : Result DetailAnswer Refusal → Part
text_of (Ok d) = d.text
text_of (Err why) = record { start = record { 0 = 0 }; length = 0 }

-- its text stands in the file where it says
pub record TextStands (file : Bytes) (r : Result DetailAnswer Refusal) (text : Bytes) : Type 0 where
  pub bytes : take (text_of r).length (drop (text_of r).start.0 file) ≡ text
  pub inside : (text_of r).start.0 + (text_of r).length ≤ length file
