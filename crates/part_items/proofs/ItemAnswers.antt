-- An item's answer, by what is found in the account's 03. Assumes nothing.
use Prim.Native.Nat.{ℕ, ◌+◌, ◌-◌}
use native.Mathlib.Omega.{arith}
use mathlib.Core.Path.{◌≡◌, refl, sym, ap, ◌∙◌}
use mathlib.Core.List.{List}
use mathlib.Core.Option.{none}
use lib.ListN.{length, take, drop}
use Rattle.rules.specs.Bytes.{Bytes}
use Rattle.rules.specs.Amounts.{empty}
use Rattle.rules.specs.Outcome.{not_refused, Outcome, refused, refuse, fine, ◌>>=◌}
use Rattle.rules.specs.Lines.{account_header, lines_of, Record, record_bytes}
use Rattle.rules.specs.Grammar.{fields_of}
use Rattle.rules.specs.Records.{Field}
use Rattle.rules.specs.Parts.{Placed, account_at, part_bytes, fields_in, first_fields}
use Rattle.rules.specs.Items.{AccountItem, items_in, item_from, item_at}
use Rattle.rules.specs.Answers.{PartAnswer, part_answer, account_part, item_answer, item_of_file}
use Rattle.laws_amounts.proofs.FieldsFollow.{Follow, fields-follow}
use Rattle.join_groups.proofs.GroupRecords.{some_bytes, first-is}
use Rattle.find_next.specs.FieldTrace.{trace_lines}
use Rattle.find_next.specs.CursorMeaning.{own_lines}
use Rattle.find_next.proofs.TraceAgrees.{collected-is}
use Rattle.find_next.proofs.OwnLines.{first-own}
use Rattle.find_item.specs.ItemSearch.{yielded, items_read, item_sought}
use Rattle.find_item.proofs.ItemLaws.{yielded-is}
use Rattle.part_groups.specs.PartsEnclosed.{Numbered}
use Rattle.part_groups.proofs.PartsStand.{AccountStands, account-stands, account-refuses}
use Rattle.std.specs.Prelude.{Option, Some, None, Ok, Err}
use Rattle.std.specs.Option.{ok_or}
use Rattle.part_groups.specs.declared.Part.{Part}
use Rattle.part_groups.specs.PartMeaning.{part_meant}
use Rattle.part_groups.proofs.PartsMoved.{some_number}
use Rattle.base_refusals.specs.declared.Refusal.{Refusal}
use Rattle.base_refusals.specs.declared.Reason.TheVariants.{NoSuchPart}
use Rattle.find_item.specs.declared.Item.{Item}
use Rattle.find_item.specs.ItemSearch.{found_meant}
use Rattle.part_items.specs.ItemMeaning.{item_meant}
use Rattle.part_items.proofs.ItemsRead.{items-read}

-- 17
abbrev no_such_part : Refusal
no_such_part = record { reason = NoSuchPart; place = record { 0 = 0 } }

-- ---- an account that stands

module _ (file : Bytes) (x : Placed) (s : AccountStands file x) where
  abbrev rec : Bytes
  rec = take (length (record_bytes x.records)) (drop x.place file)

  own : own_lines 1 0 (lines_of rec) ≡ s.header
  own =
      let reads = s.reads ∙ s.whole in
      first-own rec (some_bytes rec s.header s.others reads) ∙ first-is rec s.header s.others reads

  fields-are : first_fields account_header x.records ≡ s.fields
  unfolding first_fields fields_in
  fields-are = ap (λ (rs : List Record). first_fields account_header rs) s.whole ∙ rw s.walked

  follow : Follow s.fields (fields_of account_header)
  unfolding fields_in
  follow = rw s.walked at (fields-follow account_header s.header)

  pub items-are : (n : ℕ) → item_sought rec n ≡ item_from (items_in (first_fields account_header x.records)) n
  items-are n =
      let all : yielded (trace_lines 0 (fields_of account_header) 0 (own_lines 1 0 (lines_of rec))) ≡ s.fields =
      ap (λ (r : Record). yielded (trace_lines 0 (fields_of account_header) 0 r)) own
      ∙ yielded-is (trace_lines 0 (fields_of account_header) 0 s.header) s.fields (sym (collected-is account_header s.header) ∙ s.walked) in
      ap (λ (fs : List Field). item_from (items_read fs) n) all
      ∙ ap (λ (is : List AccountItem). item_from is n) (items-read s.fields (fields_of account_header) follow)
      ∙ ap (λ (fs : List Field). item_from (items_in fs) n) (sym fields-are)

-- ---- the call

abbrev item_of : Outcome Placed → ℕ → Outcome AccountItem
item_of o n = o >>= λ account. item_from (items_in (first_fields account_header account.records)) n

-- refused
no-account : (why : Refusal) (o : Outcome Placed) (n : ℕ) → part_meant (Err why) ≡ part_answer o → item_meant (Err why) ≡ item_answer (item_of o n)
unfolding part_answer item_answer
no-account why (refused w) n e = ap (λ (q : PartAnswer). record { refusal = q.refusal; type = 0; amount = empty; count = none }) e
no-account why (fine x) n e = absurd (some_number why (ap (λ (q : PartAnswer). q.refusal.number) e))

pub account-refused : (why : Refusal) (file : Bytes) (g a n : ℕ) → part_meant (Err why) ≡ account_part file g a → item_meant (Err why) ≡ item_of_file file g a n
unfolding account_part item_of_file item_at
account-refused why file g a n e = no-account why (account_at file g a) n e

-- found: the part's bytes are the account's
module _ (file : Bytes) (n : ℕ) (p : Part) where
  abbrev part : Bytes
  part = take p.length (drop p.start.0 file)

  answers : (x : Placed) → part_meant (Ok p) ≡ part_answer (fine x) → AccountStands file x → item_sought part n ≡ item_of (fine x) n
  unfolding part_answer part_bytes
  answers x e s =
      let at : p.start.0 ≡ x.place = ap (λ (q : PartAnswer). q.start) e in
      let size : p.length ≡ length (record_bytes x.records) = ap (λ (q : PartAnswer). q.len) e in
      let bytes : part ≡ take (length (record_bytes x.records)) (drop x.place file) = rw (size, at) in
      ap (λ (bs : Bytes). item_sought bs n) bytes ∙ items-are file x s n

  answers_by : (o : Outcome Placed) → part_meant (Ok p) ≡ part_answer o → Numbered o → ((x : Placed) → o ≡ fine x → AccountStands file x) → item_sought part n ≡ item_of o n
  unfolding part_answer
  answers_by (refused why) e never stands = let y : 0 ≡ why.number = ap (λ (q : PartAnswer). q.refusal.number) e in let x = never why refl in absurd (omega arith)
  answers_by (fine x) e never stands = answers x e (stands x refl)

  -- this item, or none of that number
  found-item : (r : Option Item) → item_meant (ok_or r no_such_part) ≡ item_answer (found_meant r)
  unfolding item_answer
  found-item None = refl
  found-item (Some i) = refl

  pub item-found : (g a : ℕ) (r : Option Item) → part_meant (Ok p) ≡ account_part file g a → found_meant r ≡ item_sought part n → item_meant (ok_or r no_such_part) ≡ item_of_file file g a n
  unfolding account_part item_of_file item_at
  item-found g a r e h = found-item r ∙ ap item_answer (h ∙ answers_by (account_at file g a) e (account-refuses file g a) (account-stands file g a))
