-- What the reading calls answer C, in the rules' terms: the same numbers, figure by figure; where refused, every figure but number and place is 0.
-- Assumes nothing.
use Rattle.std.specs.Prelude.{ℕ, List, ℤ}
use Rattle.rules.specs.Outcome.{Refusal, Outcome, or_else, refusal_of}
use Rattle.rules.specs.Numbers.{as_integer}
use Rattle.rules.specs.Amounts.{magnitude_of}
use Rattle.rules.specs.Totals.{Summary, no_summary}
use Rattle.rules.specs.Answers as rules
use Rattle.rules.specs.HandedOut as handed
use Rattle.c_reading.specs.declared.Bai2Summary.{Bai2Summary}
use Rattle.c_reading.specs.declared.cutting.Bai2Part.{Bai2Part}
use Rattle.c_reading.specs.declared.cutting.Bai2Detail.{Bai2Detail}
use Rattle.c_reading.specs.declared.handing.Bai2Record.{Bai2Record}
use Rattle.c_reading.specs.declared.handing.Bai2Fields.{Bai2Fields}

-- ---- reading

-- a verdict: its refusal, 0 and 0 where there is none; the total as one signed number; and the counts
pub record SummaryFigures : Type 0 where
  pub refusal : Refusal
  pub total : ℤ
  pub groups : ℕ
  pub accounts : ℕ
  pub details : ℕ
  pub records : ℕ

unfoldable pub summary_figures : Outcome Summary → SummaryFigures
summary_figures o =
    let s = or_else o no_summary in
    record {
      refusal = refusal_of o;
      total = as_integer s.sum;
      groups = s.groups;
      accounts = s.accounts;
      details = s.details;
      records = s.records;
    }

abbrev pub read_meant : Bai2Summary → SummaryFigures
read_meant r =
    record {
      refusal = record { number = r.number; place = r.place };
      total = r.total;
      groups = r.groups;
      accounts = r.accounts;
      details = r.details;
      records = r.records;
    }

-- ---- parts

abbrev pub part_meant : Bai2Part → rules.PartAnswer
part_meant r = record { refusal = record { number = r.number; place = r.place }; start = r.start; len = r.length }

abbrev pub detail_figures : rules.DetailAnswer → Bai2Detail
detail_figures d =
    record {
      number = d.refusal.number;
      place = d.refusal.place;
      type_code = d.type;
      amount_form = rules.form_number d.amount;
      amount = magnitude_of d.amount;
      text_start = d.text_start;
      text_length = d.text_length;
    }

-- ---- records and fields

abbrev pub record_figures : Bai2Record → handed.RecordAnswer
record_figures r = record { refusal = record { number = r.number; place = r.place }; code = r.code; lines = r.lines; len = r.length }

-- an answer about fields, with what the slice holds
abbrev pub fields_figures : Bai2Fields → List ℕ → handed.FieldsAnswer
fields_figures r out = record { refusal = record { number = r.number; place = r.place }; count = r.count; out = out }
