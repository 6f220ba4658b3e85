-- One answer for each public call: two results that both meet its promise are equal, and so are the output slices. Each
-- is `one_answer` of crate `laws`, with the way from the meaning back to the answer. Assumes nothing.
use Prim.Native.Nat.{ℕ}
use mathlib.Core.Path.{◌≡◌, refl, ap, ap₂}
use mathlib.Core.Bool.{cond}
use mathlib.Core.List.{List, ◌++◌}
use mathlib.Core.Option as math
use mathlib.Core.Option.{none, some}
use lib.Dec.{eqb}
use Rattle.std.specs.Prelude.{Option, Some, None, Result, Ok, Err}
use Rattle.rules.specs.Bytes.{Bytes}
use Rattle.rules.specs.Outcome.{Outcome, refused, fine, ◌>>=◌}
use Rattle.rules.specs.Outcome as outcome
use Rattle.rules.specs.Totals as totals
use Rattle.rules.specs.Verdict.{judge}
use Rattle.rules.specs.Parts.{header_in, groups_in, size_of_all}
use Rattle.rules.specs.CodeList.{is_status, is_summary, Entry, unlisted, NA, CR, DB, entry_of}
use Rattle.rules.specs.Amounts.{Amount, empty, unsigned, with_plus, with_minus}
use Rattle.rules.specs.Answers as rules
use Rattle.rules.specs.Combine as combine
use Rattle.rules.specs.Split.{split}
use Rattle.rules.specs.Writer as writing
use Rattle.rules.specs.Lines.{code_number}
use Rattle.rules.specs.HandedOut.{record_at, RecordAnswer, record_answer, FieldsAnswer, fields_of_record}
use Rattle.laws.specs.LawWords.{Left}
use Rattle.laws.proofs.OneAnswer.{one_answer}
use Rattle.base_codes.specs.declared.Code.{Code}
use Rattle.base_codes.specs.declared.Code.TheVariants as codes
use Rattle.base_codes.specs.CodeMeaning as base_codes
use Rattle.base_quantities.specs.QuantityMeanings.{units_of}
use Rattle.name_codes.specs.declared.CodeClass.{CodeClass}
use Rattle.name_codes.specs.declared.CodeClass.TheVariants as classes
use Rattle.name_codes.specs.ClassMeaning.{class_meant}
use Rattle.base_totals.specs.declared.Summary.{Summary}
use Rattle.read_file.specs.declared.GoodFile.{GoodFile}
use Rattle.base_totals.specs.SummaryMeaning.{summary_meant}
use Rattle.read_file.specs.FileMeanings.{verdict_meant}
use Rattle.read_file.specs.FileAnswers.{JudgedIs}
use Rattle.join_split.specs.SplitAnswers.{answer_meant}
use Rattle.join_combine.specs.declared.Refused.{Refused}
use Rattle.join_combine.specs.CombineAnswers.{combined_meant}
use Rattle.part_groups.specs.declared.Part.{Part}
use Rattle.base_refusals.specs.declared.Refusal.{Refusal}
use Rattle.base_refusals.specs.RefusalMeaning.{refusal_meant}
use Rattle.base_refusals.proofs.RefusalsBack.{not_numbered_0, refusal_from, same-refusal, result_from, same_err}
use Rattle.base_amounts.specs.declared.Amount as amounts
use Rattle.base_amounts.specs.declared.Amount.TheVariants as forms
use Rattle.base_amounts.specs.AmountsRead.{amount_meant}
use Rattle.base_quantities.specs.declared.Count.{Count}
use Rattle.find_item.specs.ItemSearch.{count_meant}
use Rattle.find_item.specs.declared.Item.{Item}
use Rattle.part_items.specs.ItemMeaning.{item_meant}
use Rattle.part_groups.specs.PartMeaning as parts
use Rattle.part_details.specs.DetailMeaning as details
use Rattle.part_records.specs.declared.Record.{Record}
use Rattle.part_details.specs.declared.DetailAnswer.{DetailAnswer}
use Rattle.part_records.specs.RecordsFound.{record_meant, Finds}
use Rattle.find_walk.specs.declared.FieldCount.{FieldCount}
use Rattle.part_fields.specs.FieldAnswers.{fields_meant}
use Rattle.write_state.specs.declared.Phase.{Phase}
use Rattle.write_state.specs.declared.Phase.TheVariants as phases
use Rattle.write_state.specs.declared.Writer.{Writer}
use Rattle.write_state.specs.declared.Written.{Written}
use Rattle.write_state.specs.WriterMeaning.{phase_meant, writer_meant, written_meant}
use Rattle.c_items.specs.declared.Bai2Item.{Bai2Item}
use Rattle.c_reading.specs.declared.Bai2Summary.{Bai2Summary}
use Rattle.c_joining.specs.declared.Bai2Answer.{Bai2Answer}
use Rattle.c_joining.specs.declared.Bai2Combined.{Bai2Combined}
use Rattle.c_reading.specs.declared.cutting.Bai2Part.{Bai2Part}
use Rattle.c_reading.specs.declared.cutting.Bai2Detail.{Bai2Detail}
use Rattle.c_reading.specs.declared.handing.Bai2Record.{Bai2Record}
use Rattle.c_reading.specs.declared.handing.Bai2Fields.{Bai2Fields}
use Rattle.c_naming.specs.declared.Bai2Code.{Bai2Code}
use Rattle.c_writer.specs.declared.Bai2Writer.{Bai2Writer}
use Rattle.c_writer.specs.declared.Bai2Written.{Bai2Written}
use Rattle.c_reading.specs.CAnswers.{SummaryFigures, summary_figures, read_meant, part_meant, record_figures, fields_figures}
use Rattle.c_naming.specs.CNamed.{code_meant}
use Rattle.c_joining.specs.CJoined.{split_meant, combine_meant}
use Rattle.c_writer.specs.WriterFigures.{numbers_of, Reply, replied, reply_to}

-- ---- reading

abbrev summary_of : totals.Summary → Summary
summary_of s = record { total = units_of s.sum; groups = record { 0 = s.groups }; accounts = record { 0 = s.accounts }; details = record { 0 = s.details }; records = record { 0 = s.records } }

abbrev verdict_of : Outcome totals.Summary → Result Summary Refusal
verdict_of (fine s) = Ok (summary_of s)
verdict_of (refused why) = Err (refusal_from why)

same-verdict : (v : Result Summary Refusal) → verdict_of (verdict_meant v) ≡ v
same-verdict (Ok s) = refl
same-verdict (Err why) = ap Err (same-refusal why)

-- read_file::read
pub read_one : (file : Bytes) (v w : Result Summary Refusal) → verdict_meant v ≡ judge file → verdict_meant w ≡ judge file → v ≡ w
read_one file = one_answer verdict_meant verdict_of same-verdict (judge file)

-- what is known of an accepted file: its summary, its longest line, and where its 99 starts
record Known : Type 0 where
  summary : totals.Summary
  limit : ℕ
  last : ℕ

abbrev judged_meant : Result GoodFile Refusal → Outcome Known
judged_meant (Ok g) = fine (record { summary = summary_meant g.summary; limit = g.limit; last = g.last.0 })
judged_meant (Err why) = refused (refusal_meant why)

abbrev judged_of : Outcome Known → Result GoodFile Refusal
judged_of (fine k) = Ok (record { summary = summary_of k.summary; limit = k.limit; last = record { 0 = k.last } })
judged_of (refused why) = Err (refusal_from why)

same-judged : (v : Result GoodFile Refusal) → judged_of (judged_meant v) ≡ v
same-judged (Ok g) = refl
same-judged (Err why) = ap Err (same-refusal why)

abbrev known : Bytes → Outcome Known
known file =
    judge file
    >>= λ s. fine (record { summary = s; limit = combine.limit_of (header_in file); last = size_of_all (header_in file ++ combine.concat (groups_in file)) })

judged-says : (file : Bytes) (v : Result GoodFile Refusal) → JudgedIs v file → judged_meant v ≡ known file
judged-says file (Ok g) good = rw (good.accepts, good.limit, good.last)
judged-says file (Err why) e = rw e

-- read_file::judge_file
pub judged-one : (file : Bytes) (v w : Result GoodFile Refusal) → JudgedIs v file → JudgedIs w file → v ≡ w
judged-one file v w x y = one_answer judged_meant judged_of same-judged (known file) v w (judged-says file v x) (judged-says file w y)

-- bai2_read
pub c-read-one : (file : Bytes) (r s : Bai2Summary) → read_meant r ≡ summary_figures (judge file) → read_meant s ≡ summary_figures (judge file) → r ≡ s
c-read-one file =
    one_answer read_meant
    (λ (m : SummaryFigures). record {
      number = m.refusal.number;
      place = m.refusal.place;
      total = m.total;
      groups = m.groups;
      accounts = m.accounts;
      details = m.details;
      records = m.records;
    })
    (λ r. refl) (summary_figures (judge file))

-- ---- splitting

abbrev split_back : combine.Answer → Left (Result ℕ Refusal)
split_back m = record { answer = result_from m.len m.refusal; slice = m.output }

same_split : (r : Result ℕ Refusal) (out : Bytes) → ◌≡◌ {A = Left (Result ℕ Refusal)} (split_back (answer_meant r out)) (record { answer = r; slice = out })
same_split (Ok n) out = refl
same_split (Err why) out = ap (λ (r : Result ℕ Refusal). record { answer = r; slice = out }) (same_err 0 why)

-- join_split::split
pub split_one : (name file before : Bytes) (x y : Left (Result ℕ Refusal))
    → answer_meant x.answer x.slice ≡ split name file before → answer_meant y.answer y.slice ≡ split name file before → x ≡ y
split_one name file before =
    one_answer (λ (x : Left (Result ℕ Refusal)). answer_meant x.answer x.slice) split_back (λ x. same_split x.answer x.slice) (split name file before)

-- bai2_split
pub c-split-one : (name file before : Bytes) (x y : Left Bai2Answer)
    → split_meant x.answer x.slice ≡ split name file before → split_meant y.answer y.slice ≡ split name file before → x ≡ y
c-split-one name file before =
    one_answer (λ (x : Left Bai2Answer). split_meant x.answer x.slice)
    (λ (m : combine.Answer). record { answer = record { number = m.refusal.number; place = m.refusal.place; length = m.len }; slice = m.output })
    (λ x. refl) (split name file before)

-- ---- combining

abbrev combined_back : combine.Answer → Left (Result ℕ Refused)
combined_back m =
    record {
      answer = cond (eqb m.refusal.number 0) (Ok m.len) (Err (record { refusal = refusal_from m.refusal; file = m.which }));
      slice = m.output;
    }

same_combined : (r : Result ℕ Refused) (out : Bytes) → ◌≡◌ {A = Left (Result ℕ Refused)} (combined_back (combined_meant r out)) (record { answer = r; slice = out })
same_combined (Ok n) out = refl
same_combined (Err r) out =
    rw (not_numbered_0 r.refusal.reason)
    (ap (λ (why : Refusal). record { answer = Err (record { refusal = why; file = r.file }); slice = out }) (same-refusal r.refusal))

-- join_combine::combine
pub combine-one : (a b before : Bytes) (x y : Left (Result ℕ Refused))
    → combined_meant x.answer x.slice ≡ combine.combine a b before → combined_meant y.answer y.slice ≡ combine.combine a b before → x ≡ y
combine-one a b before =
    one_answer (λ (x : Left (Result ℕ Refused)). combined_meant x.answer x.slice) combined_back (λ x. same_combined x.answer x.slice) (combine.combine a b before)

-- bai2_combine
pub c-combine-one : (a b before : Bytes) (x y : Left Bai2Combined)
    → combine_meant x.answer x.slice ≡ combine.combine a b before → combine_meant y.answer y.slice ≡ combine.combine a b before → x ≡ y
c-combine-one a b before =
    one_answer (λ (x : Left Bai2Combined). combine_meant x.answer x.slice)
    (λ (m : combine.Answer). record { answer = record { number = m.refusal.number; place = m.refusal.place; length = m.len; file = m.which }; slice = m.output })
    (λ x. refl) (combine.combine a b before)

-- ---- parts

-- part_groups::group, account, part_details::detail_text: the part's bytes are promised themselves
pub slice-one : (promised x y : Bytes) → x ≡ promised → y ≡ promised → x ≡ y
slice-one = one_answer (λ (x : Bytes). x) (λ (x : Bytes). x) (λ x. refl)

abbrev part_from : rules.PartAnswer → Result Part Refusal
part_from m = result_from (record { start = record { 0 = m.start }; length = m.len }) m.refusal

same-part : (p : Result Part Refusal) → part_from (parts.part_meant p) ≡ p
same-part (Ok p) = refl
same-part (Err why) = same_err _ why

-- part_groups::find_group, find_account, find_detail
pub part-one : (promised : rules.PartAnswer) (x y : Result Part Refusal) → parts.part_meant x ≡ promised → parts.part_meant y ≡ promised → x ≡ y
part-one = one_answer parts.part_meant part_from same-part

-- bai2_group, bai2_account
pub c-part-one : (promised : rules.PartAnswer) (x y : Bai2Part) → part_meant x ≡ promised → part_meant y ≡ promised → x ≡ y
c-part-one =
    one_answer part_meant (λ (m : rules.PartAnswer). record { number = m.refusal.number; place = m.refusal.place; start = m.start; length = m.len })
    (λ x. refl)

abbrev told_from : outcome.Refusal → Option Refusal
told_from why = cond (eqb why.number 0) None (Some (refusal_from why))

same_told : (r : Option Refusal) → told_from (parts.refusal_told r) ≡ r
same_told None = refl
same_told (Some why) = rw (not_numbered_0 why.reason) (ap Some (same-refusal why))

-- part_groups::group_refusal, account_refusal
pub refusal-one : (promised : outcome.Refusal) (x y : Option Refusal) → parts.refusal_told x ≡ promised → parts.refusal_told y ≡ promised → x ≡ y
refusal-one = one_answer parts.refusal_told told_from same_told

-- an amount of the code from its meaning
abbrev amount_from : Amount → amounts.Amount
amount_from empty = forms.Empty
amount_from (unsigned n) = forms.Unsigned (record { 0 = n })
amount_from (with_plus n) = forms.WithPlus (record { 0 = n })
amount_from (with_minus n) = forms.WithMinus (record { 0 = n })

same-amount : (a : amounts.Amount) → amount_from (amount_meant a) ≡ a
same-amount forms.Empty = refl
same-amount (forms.Unsigned n) = refl
same-amount (forms.WithPlus n) = refl
same-amount (forms.WithMinus n) = refl

-- base_amounts::amount_in
pub amount-one : (promised : Amount) (x y : amounts.Amount) → amount_meant x ≡ promised → amount_meant y ≡ promised → x ≡ y
amount-one = one_answer amount_meant amount_from same-amount

abbrev detail_from : rules.DetailAnswer → Result DetailAnswer Refusal
detail_from m =
    result_from
    (record {
      type_code = m.type;
      amount = amount_from m.amount;
      text = record { start = record { 0 = m.text_start }; length = m.text_length };
    })
    m.refusal

same-detail : (r : Result DetailAnswer Refusal) → detail_from (details.detail_meant r) ≡ r
same-detail (Ok d) = ap (λ (a : amounts.Amount). Ok (record { type_code = d.type_code; amount = a; text = d.text })) (same-amount d.amount)
same-detail (Err why) = same_err _ why

-- part_details::detail
pub detail-one : (promised : rules.DetailAnswer) (x y : Result DetailAnswer Refusal) → details.detail_meant x ≡ promised → details.detail_meant y ≡ promised → x ≡ y
detail-one = one_answer details.detail_meant detail_from same-detail

-- bai2_detail_of: the figures are promised themselves
pub c-detail-one : (promised x y : Bai2Detail) → x ≡ promised → y ≡ promised → x ≡ y
c-detail-one = one_answer (λ (x : Bai2Detail). x) (λ (x : Bai2Detail). x) (λ x. refl)

-- ---- items

abbrev count_from : math.Option ℕ → Option Count
count_from none = None
count_from (some n) = Some (record { 0 = n })

same_count : (c : Option Count) → count_from (count_meant c) ≡ c
same_count None = refl
same_count (Some n) = refl

abbrev item_from : rules.ItemAnswer → Result Item Refusal
item_from m = result_from (record { type_code = m.type; amount = amount_from m.amount; count = count_from m.count }) m.refusal

same_item : (r : Result Item Refusal) → item_from (item_meant r) ≡ r
same_item (Ok i) =
    ap₂ (λ (a : amounts.Amount) (c : Option Count). Ok (record { type_code = i.type_code; amount = a; count = c })) (same-amount i.amount) (same_count i.count)
same_item (Err why) = same_err _ why

-- part_items::item
pub item-one : (promised : rules.ItemAnswer) (x y : Result Item Refusal) → item_meant x ≡ promised → item_meant y ≡ promised → x ≡ y
item-one = one_answer item_meant item_from same_item

-- bai2_item_of: the figures are promised themselves
pub c-item-one : (promised x y : Bai2Item) → x ≡ promised → y ≡ promised → x ≡ y
c-item-one = one_answer (λ (x : Bai2Item). x) (λ (x : Bai2Item). x) (λ x. refl)

-- ---- records and fields

-- the code of this number
abbrev code_from : ℕ → Code
code_from n =
    cond (eqb n 1) codes.FileHeader
    (cond (eqb n 2) codes.GroupHeader
    (cond (eqb n 3) codes.AccountHeader
    (cond (eqb n 16) codes.Detail
    (cond (eqb n 49) codes.AccountTrailer (cond (eqb n 98) codes.GroupTrailer (cond (eqb n 99) codes.FileTrailer codes.Continuation))))))

same_code : (c : Code) → code_from (code_number (base_codes.code_meant c)) ≡ c
same_code codes.FileHeader = refl
same_code codes.GroupHeader = refl
same_code codes.AccountHeader = refl
same_code codes.Detail = refl
same_code codes.AccountTrailer = refl
same_code codes.GroupTrailer = refl
same_code codes.FileTrailer = refl
same_code codes.Continuation = refl

abbrev record_from : RecordAnswer → Result Record Refusal
record_from m = result_from (record { code = code_from m.code; lines = record { 0 = m.lines }; length = m.len }) m.refusal

same_record : (r : Result Record Refusal) → record_from (record_meant r) ≡ r
same_record (Ok x) = ap (λ (c : Code). Ok (record { code = c; lines = x.lines; length = x.length })) (same_code x.code)
same_record (Err why) = same_err _ why

-- part_records::record_at
pub record-one : (file : Bytes) (start : ℕ) (x y : Result Record Refusal) → Finds file start x → Finds file start y → x ≡ y
record-one file start x y p q = one_answer record_meant record_from same_record (record_answer (record_at file start)) x y p.answer q.answer

-- bai2_record_at
pub c-record-one : (file : Bytes) (start : ℕ) (x y : Bai2Record)
    → record_figures x ≡ record_answer (record_at file start) → record_figures y ≡ record_answer (record_at file start) → x ≡ y
c-record-one file start =
    one_answer record_figures
    (λ (m : RecordAnswer). record { number = m.refusal.number; place = m.refusal.place; code = m.code; lines = m.lines; length = m.len })
    (λ x. refl) (record_answer (record_at file start))

abbrev fields_from : FieldsAnswer → Left (Result FieldCount Refusal)
fields_from m = record { answer = result_from (record { 0 = m.count }) m.refusal; slice = m.out }

same-fields : (r : Result FieldCount Refusal) (out : List ℕ) → ◌≡◌ {A = Left (Result FieldCount Refusal)} (fields_from (fields_meant r out)) (record { answer = r; slice = out })
same-fields (Ok n) out = refl
same-fields (Err why) out = ap (λ (r : Result FieldCount Refusal). record { answer = r; slice = out }) (same_err _ why)

-- part_fields::fields_at
pub fields-one : (file : Bytes) (start : ℕ) (before : List ℕ) (x y : Left (Result FieldCount Refusal))
    → fields_meant x.answer x.slice ≡ fields_of_record file start before → fields_meant y.answer y.slice ≡ fields_of_record file start before → x ≡ y
fields-one file start before =
    one_answer (λ (x : Left (Result FieldCount Refusal)). fields_meant x.answer x.slice) fields_from (λ x. same-fields x.answer x.slice) (fields_of_record file start before)

-- bai2_fields_at
pub c-fields-one : (file : Bytes) (start : ℕ) (before : List ℕ) (x y : Left Bai2Fields)
    → fields_figures x.answer x.slice ≡ fields_of_record file start before → fields_figures y.answer y.slice ≡ fields_of_record file start before → x ≡ y
c-fields-one file start before =
    one_answer (λ (x : Left Bai2Fields). fields_figures x.answer x.slice)
    (λ (m : FieldsAnswer). record { answer = record { number = m.refusal.number; place = m.refusal.place; count = m.count }; slice = m.out })
    (λ x. refl) (fields_of_record file start before)

-- ---- type codes

abbrev class_from : Entry → CodeClass
class_from unlisted = classes.Unlisted
class_from (NA l) = cond (is_status l) classes.Status classes.NonMonetary
class_from (CR l) = cond (is_summary l) classes.CreditSummary classes.CreditDetail
class_from (DB l) = cond (is_summary l) classes.DebitSummary classes.DebitDetail

same_class : (x : CodeClass) → class_from (class_meant x) ≡ x
same_class classes.Unlisted = refl
same_class classes.Status = refl
same_class classes.CreditSummary = refl
same_class classes.CreditDetail = refl
same_class classes.DebitSummary = refl
same_class classes.DebitDetail = refl
same_class classes.NonMonetary = refl

-- name_codes::code_class
pub class-one : (code : ℕ) (x y : CodeClass) → class_meant x ≡ entry_of code → class_meant y ≡ entry_of code → x ≡ y
class-one code = one_answer class_meant class_from same_class (entry_of code)

-- bai2_code_of
pub c-code-one : (code : ℕ) (x y : Bai2Code) → code_meant x ≡ rules.code_answer code → code_meant y ≡ rules.code_answer code → x ≡ y
c-code-one code =
    one_answer code_meant
    (λ (m : rules.CodeAnswer). record { listed = m.listed; status = m.status; summary = m.summary; detail = m.detail; side = m.side })
    (λ x. refl) (rules.code_answer code)

-- ---- writing

abbrev phase_of : writing.Phase → Phase
phase_of writing.fresh = phases.Fresh
phase_of writing.between_groups = phases.BetweenGroups
phase_of writing.in_group = phases.InGroup
phase_of writing.between_accounts = phases.BetweenAccounts
phase_of writing.in_account = phases.InAccount
phase_of writing.finished = phases.Finished

same-phase : (p : Phase) → phase_of (phase_meant p) ≡ p
same-phase phases.Fresh = refl
same-phase phases.BetweenGroups = refl
same-phase phases.InGroup = refl
same-phase phases.BetweenAccounts = refl
same-phase phases.InAccount = refl
same-phase phases.Finished = refl

abbrev writer_of : writing.Writer → Writer
writer_of w =
    record {
      phase = phase_of w.phase;
      items = w.items;
      size = record { 0 = w.size };
      file = summary_of w.file;
      group = summary_of w.group;
      account = summary_of w.account;
    }

same_writer : (w : Writer) → writer_of (writer_meant w) ≡ w
same_writer w =
    ap (λ (p : Phase). record { phase = p; items = w.items; size = w.size; file = w.file; group = w.group; account = w.account }) (same-phase w.phase)

-- write_state::Writer::new
pub new-one : (v w : Writer) → writer_meant v ≡ writing.fresh_writer → writer_meant w ≡ writing.fresh_writer → v ≡ w
new-one = one_answer writer_meant writer_of same_writer writing.fresh_writer

abbrev written-back : writing.Written → Left (Result Written Refusal)
written-back m = record { answer = result_from (record { length = m.len; writer = writer_of m.writer }) m.refusal; slice = m.output }

same-written : (state : Writer) (r : Result Written Refusal) (out : Bytes)
    → ◌≡◌ {A = Left (Result Written Refusal)} (written-back (written_meant state r out)) (record { answer = r; slice = out })
same-written state (Ok r) out =
    ap (λ (w : Writer). record { answer = Ok (record { length = r.length; writer = w }); slice = out }) (same_writer r.writer)
same-written state (Err why) out =
    ap (λ (r : Result Written Refusal). record { answer = r; slice = out }) (same_err (record { length = 0; writer = writer_of (writer_meant state) }) why)

-- write_calls::header, group, account, item, detail, write_ends::end_account, end_group, end_file: each call on each state
pub write-one : (state : Writer) (w : writing.Writer) (call : writing.Call) (before : Bytes) (x y : Left (Result Written Refusal))
    → written_meant state x.answer x.slice ≡ writing.write w call before → written_meant state y.answer y.slice ≡ writing.write w call before → x ≡ y
write-one state w call before =
    one_answer (λ (x : Left (Result Written Refusal)). written_meant state x.answer x.slice) written-back (λ x. same-written state x.answer x.slice)
    (writing.write w call before)

-- bai2_writer_new
pub c-new-one : (v w : Bai2Writer) → v ≡ numbers_of writing.fresh_writer → w ≡ numbers_of writing.fresh_writer → v ≡ w
c-new-one = one_answer (λ (w : Bai2Writer). w) (λ (w : Bai2Writer). w) (λ w. refl) (numbers_of writing.fresh_writer)

-- bai2_write_header, .._group, .._account, .._item, .._detail, .._end_account, .._end_group, .._end_file: each call on any numbers
pub c-write-one : (given : Bai2Writer) (call : writing.Call) (before : Bytes) (x y : Left Bai2Written)
    → replied x.answer x.slice ≡ reply_to given call before → replied y.answer y.slice ≡ reply_to given call before → x ≡ y
c-write-one given call before =
    one_answer (λ (x : Left Bai2Written). replied x.answer x.slice) (λ (m : Reply). record { answer = m.answer; slice = m.output }) (λ x. refl)
    (reply_to given call before)
