-- Each accepted call keeps what stands: the reader takes the bytes so far and finds in them what was told. Assumes nothing.
use mathlib.Core.Path.{◌≡◌, refl, sym}
use mathlib.Core.Bool.{true, false≢true}
use mathlib.Core.List.{List, [], ◌∷◌}
use mathlib.Core.Option.{Option, none, some}
use Prim.Native.Nat.{ℕ, ◌+◌, ◌≤◌}
use native.Mathlib.Omega.{arith}
use native.Mathlib.Nat.{add-zero}
use lib.Dec.{eqb}
use borrow.Author.Tests.{eq-eqb, eqb-true}
use Rattle.rules.specs.Bytes.{Bytes, same_bytes}
use Rattle.rules.specs.Outcome.{Outcome, fine, ◌>>◌}
use Rattle.rules.specs.Numbers.{Signed, Sum, zero_sum, decimal, total_bytes, magnitudes, within_most, equals}
use Rattle.rules.specs.Amounts.{amount_in, amount_adds}
use Rattle.rules.specs.Limits.{most, longest_line}
use Rattle.rules.specs.Lines.{Code, detail, group_trailer, file_trailer, begins, lines_of, records_of, file_records}
use Rattle.rules.specs.Grammar.{Kind, fields_of, total, count, records}
use Rattle.rules.specs.Records.{Field, the}
use Rattle.rules.specs.Totals.{Summary, ◌⊞◌, adding, balanced, right_total, right_count, right_records, sum_within}
use Rattle.rules.specs.Order.{among}
use Rattle.rules.specs.Verdict.{limit_after, run}
use Rattle.rules.specs.Writer.{Item, Call, write_header, write_group, write_account, write_item, write_detail, end_account, end_group, end_file}
use Rattle.rules.specs.Writer.{expected_in, Writer, fresh_writer, Given, given, item_fields, trailer_fields, of_given, kinds_after, body_of, Entry}
use Rattle.rules.proofs.Tests.{is_true}
use Rattle.rules.proofs.RunLaws.{within}
use Rattle.base_digits.proofs.DigitTests.{and_right}
use Rattle.base_digits.proofs.DigitStrings.{number-decimal}
use Rattle.base_digits.proofs.TotalStrings.{total-equals}
use Rattle.laws_writer.specs.SessionWords.{records_said, file_said, gathered, gives}
use Rattle.laws_writer.proofs.LinesWritten.{cut-none}
use Rattle.laws_writer.proofs.WalkWritten.{zipped}
use Rattle.laws_writer.proofs.Passed.{Passed}
use Rattle.laws_writer.proofs.Sound.{sound-says}
use Rattle.laws_writer.proofs.Found.{header-found, header-limit, group-found, account-end-found, account-end-fields, slash_line, trailer-found, trailer-fields}
use Rattle.laws_writer.proofs.ItemsWritten.{account-found, further-found}
use Rattle.laws_writer.proofs.DetailsWritten.{detail-found}
use Rattle.laws_writer.proofs.RecordsWritten.{Run, extended, Ready, After, ready-after, new-record}
use Rattle.laws_writer.proofs.Further.{one_more}

-- ---- the trailers that the writer makes are right

same : (n : ℕ) → eqb n n ≡ true
same n = eq-eqb n n refl

equals-sym : (a b : Sum) → equals a b ≡ true → equals b a ≡ true
equals-sym a b h = eq-eqb (b.pluses + a.minuses) (a.pluses + b.minuses) (sym (eqb-true (a.pluses + b.minuses) (b.pluses + a.minuses) h))

module _ (s : Summary) (g : Given) (fs : List Field) (sum : (of_given g).sum ≡ zero_sum) (lines : (of_given g).records ≡ 1) where
  total_right : (the total fs).bytes ≡ total_bytes s.sum → right_total (s ⊞ of_given g) fs ≡ fine tt
  unfolding right_total ◌⊞◌
  total_right e =
      rw (e, sum, add-zero s.sum.pluses, add-zero s.sum.minuses, equals-sym (amount_adds (amount_in (total_bytes s.sum))) s.sum (total-equals s.sum))

  records-right : (the records fs).bytes ≡ decimal (s.records + 1) → right_records (s ⊞ of_given g) fs ≡ fine tt
  unfolding right_records ◌⊞◌
  records-right e = rw (e, lines, number-decimal (s.records + 1), same (s.records + 1))

  within-right : magnitudes s.sum ≤ most → sum_within (s ⊞ of_given g) fs ≡ fine tt
  unfolding sum_within ◌⊞◌
  within-right h = rw (sum, add-zero s.sum.pluses, add-zero s.sum.minuses, is_true (within_most s.sum) (within s.sum h))

count-right : (m n : ℕ) (fs : List Field) → n ≡ m → (the count fs).bytes ≡ decimal m → right_count n fs ≡ fine tt
unfolding right_count
count-right m n fs e f = rw (f, number-decimal m, e, same m)

-- 14, 11, 12 and 13 of a group's or the file's trailer
abbrev trailer_checks : Summary → ℕ → List Field → Outcome (Unit {0})
trailer_checks s n fs = do
  sum_within s fs
  right_total s fs
  right_count n fs
  right_records s fs

-- where the writer made it of this summary, with this count
module _ (c : Code) (s : Summary) (n : ℕ) (left : List Kind) (h : kinds_after (total ∷ count ∷ records ∷ []) (trailer_fields s n) ≡ fine left) where
  abbrev trailer_line : Given
  trailer_line = slash_line c (total ∷ count ∷ records ∷ []) (trailer_fields s n) none

  trailer-right : (m : ℕ) → m ≡ n → magnitudes s.sum ≤ most → trailer_checks (s ⊞ of_given trailer_line) m ((trailer-found c s n left h).fields 3) ≡ fine tt
  unfolding of_given adding zipped the
  trailer-right m e most-sum =
      let fs = zipped 3 (total ∷ count ∷ records ∷ []) (trailer_fields s n) in
      rw (
        trailer-fields c s n left h,
        within-right s trailer_line fs refl refl most-sum,
        total_right s trailer_line fs refl refl refl,
        count-right n m fs e refl,
      ) (records-right s trailer_line fs refl refl refl)

-- ---- each call

-- nothing yet, or records with the last one apart
pub data Stands : Run → Type 0 where
  nothing_yet : Stands (record { writer = fresh_writer; bytes = []; told = [] })
  so_far : {r : Run} → After r → Stands r

fresh-ready : Ready (record { writer = fresh_writer; bytes = []; told = [] })
unfolding file_records records_of lines_of run file_said records_said
fresh-ready = record { cut = cut-none; size = refl; runs = refl; told = refl }

pub ready : {r : Run} → Stands r → Ready r
ready nothing_yet = fresh-ready
ready {r} (so_far b) = ready-after r b

abbrev Kept : Run → Call → ℕ → Type 0
Kept r call room = (e : Entry) (p : Passed r.writer (given r.writer call) room e) → After (extended r (given r.writer call) p.left (gives r.writer call))

module _ (r : Run) (x : Ready r) (room : ℕ) where
  abbrev w : Writer
  w = r.writer

  header-kept : (s v d t n : Bytes) → Kept r (write_header s v d t n) room
  unfolding given fields_of begins body_of same_bytes balanced gathered limit_after
  header-kept s v d t n e p =
      new-record r x (given w (write_header s v d t n)) (gives w (write_header s v d t n)) p.left (header-found w p.left s v d t n p.fields) p.turn refl
      (header-limit w p.left longest_line s v d t n p.fields) p.bound refl refl refl (λ q. absurd (false≢true q)) refl

  group-kept : (u o s d t c m : Bytes) → Kept r (write_group u o s d t c m) room
  unfolding given fields_of begins body_of same_bytes balanced gathered limit_after
  group-kept u o s d t c m e p =
      new-record r x (given w (write_group u o s d t c m)) (gives w (write_group u o s d t c m)) p.left (group-found w p.left u o s d t c m p.fields) p.turn refl refl
      p.bound refl refl refl (λ q. absurd (false≢true q)) refl

  account-kept : (m u : Bytes) (i : Option Item) → Kept r (write_account m u i) room
  unfolding given fields_of begins body_of same_bytes balanced gathered limit_after
  account-kept m u none e p =
      new-record r x (given w (write_account m u none)) (gives w (write_account m u none)) p.left (account-found w m u none p.left p.fields) p.turn refl refl
      p.bound refl refl refl (λ q. refl) refl
  account-kept m u (some i) e p =
      new-record r x (given w (write_account m u (some i))) (gives w (write_account m u (some i))) p.left (account-found w m u (some i) p.left p.fields) p.turn refl refl
      p.bound refl refl refl (λ q. refl) refl

  detail-kept : (y : Bytes) (a : Option Signed) (b c t : Bytes) → Kept r (write_detail y a b c t) room
  unfolding given fields_of begins body_of same_bytes balanced gathered limit_after
  detail-kept y a b c t e p =
      new-record r x (given w (write_detail y a b c t)) (gives w (write_detail y a b c t)) p.left (detail-found w y a b c t p.left p.text p.fields) p.turn refl refl
      p.bound refl refl refl (λ q. absurd (false≢true q)) refl

  account-end-kept : Kept r end_account room
  unfolding given fields_of begins body_of same_bytes balanced gathered limit_after of_given adding zipped the
  account-end-kept e p =
      let g = given w end_account in
      let fs = zipped 3 (total ∷ records ∷ []) g.fields in
      new-record r x g (gives w end_account) p.left (account-end-found w p.left p.fields) p.turn refl refl p.bound
      (rw (account-end-fields w p.left p.fields, total_right w.account g fs refl refl refl) (records-right w.account g fs refl refl refl))
      refl refl (λ q. absurd (false≢true q)) refl

  group-end-kept : Kept r end_group room
  unfolding given fields_of begins body_of same_bytes balanced gathered limit_after gives ◌⊞◌ of_given adding
  group-end-kept e p =
      let s = sound-says w p.sound in
      let n = w.group.accounts in
      new-record r x (given w end_group) (gives w end_group) p.left (trailer-found group_trailer w.group n p.left p.fields) p.turn refl refl p.bound
      (trailer-right group_trailer w.group n p.left p.fields (n + 0) (add-zero n) (omega (arith, s.group, s.file))) refl refl (λ q. absurd (false≢true q)) refl

  file-end-kept : Kept r end_file room
  unfolding given fields_of begins body_of same_bytes balanced gathered limit_after gives ◌⊞◌ of_given adding
  file-end-kept e p =
      let n = w.file.groups in
      new-record r x (given w end_file) (gives w end_file) p.left (trailer-found file_trailer w.file n p.left p.fields) p.turn refl refl p.bound
      (trailer-right file_trailer w.file n p.left p.fields (n + 0) (add-zero n) (sound-says w p.sound).file) refl refl (λ q. absurd (false≢true q)) refl

further-kept : (r : Run) (i : Item) (room : ℕ) → Stands r → Kept r (write_item i) room
unfolding given among same_bytes
further-kept r i room nothing_yet e p = absurd (false≢true p.turn)
further-kept r i room (so_far b) e p =
    one_more r b (item_fields i) i.amount (gives r.writer (write_item i)) p.left (further-found r.writer i p.left p.fields)
    (and_right (among detail (expected_in r.writer.phase)) r.writer.items p.turn) p.bound

pub kept : (r : Run) (call : Call) (room : ℕ) → Stands r → Kept r call room
kept r (write_header s v d t n) room x = header-kept r (ready x) room s v d t n
kept r (write_group u o s d t c m) room x = group-kept r (ready x) room u o s d t c m
kept r (write_account m u i) room x = account-kept r (ready x) room m u i
kept r (write_item i) room x = further-kept r i room x
kept r (write_detail y a b c t) room x = detail-kept r (ready x) room y a b c t
kept r end_account room x = account-end-kept r (ready x) room
kept r end_group room x = group-end-kept r (ready x) room
kept r end_file room x = file-end-kept r (ready x) room
