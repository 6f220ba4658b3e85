-- What a field of each kind is kept for, by the rules' tests; and a good field is read as the rules read it. Assumes nothing.
use Prim.Native.Nat.{ℕ, ◌≤◌}
use mathlib.Core.Path.{◌≡◌, refl}
use mathlib.Core.Bool.{Bool, true, false, ◌||◌}
use mathlib.Core.List.{List, [], ◌∷◌}
use native.Mathlib.Omega.{arith}
use Rattle.rules.specs.Bytes.{Bytes, is_empty, one_of, between, all}
use Rattle.rules.specs.Numbers.{digits, number, number_from}
use Rattle.rules.specs.Amounts.{amount_in}
use Rattle.rules.specs.Grammar as kinds
use Rattle.rules.specs.Grammar.{Kind, same_kind, physical_length, status_amount, amount, total, count, records, bad, good, fits, judged, is_signed, is_unsigned, is_length, is_text, piece_of}
use Rattle.base_digits.specs.NumbersRead.{value_of}
use Rattle.base_digits.proofs.DigitTests.{and_left}
use Rattle.base_digits.proofs.ReadingLaws.{value-is}
use Rattle.base_digits.proofs.SignLaws.{unsigned_signed}
use Rattle.base_amounts.specs.AmountsRead.{amount_read}
use Rattle.base_amounts.proofs.AmountLaws.{amount-signed, amount-empty}
use Rattle.read_wanted.specs.Wants.{for_amount, for_total, for_count, for_records, for_length, for_nothing, same_purpose, purpose}
use Rattle.read_kept.specs.declared.Kept.{Kept}
use Rattle.read_kept.specs.KeepFields.{keep_with, keep_read, keep_field}

-- ---- good fields that are kept

-- read as the rules read it: as an amount, or as a number
abbrev pub Amounts : Kind → Type 0
Amounts k = (bs : Bytes) (new : List Kind) → judged k bs ≡ good new → amount_read bs ≡ amount_in bs

abbrev pub Numbers : Kind → Type 0
Numbers k = (bs : Bytes) (new : List Kind) → judged k bs ≡ good new → value_of bs ≡ number bs

-- what a field of this kind is kept for, and how it is read for that
pub data Reads (k : Kind) : Type 0 where
  unread : purpose k ≡ for_nothing → Reads k
  amounts : purpose k ≡ for_amount → Amounts k → Reads k
  totals : purpose k ≡ for_total → Amounts k → Reads k
  counts : purpose k ≡ for_count → Numbers k → Reads k
  record-counts : purpose k ≡ for_records → Numbers k → Reads k
  lengths : purpose k ≡ for_length → Numbers k → Reads k

fitted : (t : Bool) (ks : List Kind) → fits t ≡ good ks → t ≡ true
fitted true ks h = refl
fitted false ks h = cc

either : {A : Type 0} (s t : Bool) → (s || t) ≡ true → (s ≡ true → A) → (t ≡ true → A) → A
either true t h f g = f refl
either false t h f g = g h

digits-read : (lo hi : ℕ) (bs : Bytes) → hi ≤ 18 → digits lo hi bs ≡ true → value_of bs ≡ number bs
digits-read lo hi bs h e = value-is lo hi bs e h

reads-length : Numbers physical_length
unfolding judged is_length is_empty value_of number_from digits all
reads-length [] new e = refl
reads-length (b ∷ bs) new e =
    digits-read 1 4 (b ∷ bs) (omega arith) (and_left (digits 1 4 (b ∷ bs)) (between 48 4096 (number (b ∷ bs))) (fitted _ new e))

pub reads-status : Amounts status_amount
unfolding judged
reads-status bs new e = either (is_empty bs) (is_signed bs) (fitted _ new e) (amount-empty bs) (amount-signed bs)

pub reads-amount : Amounts amount
unfolding judged
reads-amount bs new e = either (is_empty bs) (is_unsigned bs) (fitted _ new e) (amount-empty bs) (λ h. amount-signed bs (unsigned_signed bs h))

pub reads_total : Amounts total
unfolding judged
reads_total bs new e = amount-signed bs (fitted _ new e)

reads-count : Numbers count
unfolding judged
reads-count bs new e = digits-read 1 9 bs (omega arith) (fitted _ new e)

reads-records : Numbers records
unfolding judged
reads-records bs new e = digits-read 1 9 bs (omega arith) (fitted _ new e)

-- ---- every kind: the rules' tests for amounts, totals, counts, record counts and physical lengths; kept for nothing, or read;
-- no text has no byte

abbrev Told : Kind → Type 0
Told k =
    ((same_kind k amount || same_kind k status_amount) ≡ same_purpose for_amount (purpose k))
    × (same_kind total k ≡ same_purpose for_total (purpose k))
    × (same_kind count k ≡ same_purpose for_count (purpose k))
    × (same_kind records k ≡ same_purpose for_records (purpose k))
    × (same_kind physical_length k ≡ same_purpose for_length (purpose k))
    × Reads k
    × (is_text k ≡ true → judged k [] ≡ bad 7)

pub told : (k : Kind) → Told k
unfolding purpose judged one_of piece_of is_empty
told kinds.name = (refl, refl, refl, refl, refl, unread refl, λ e. cc)
told kinds.reference = (refl, refl, refl, refl, refl, unread refl, λ e. cc)
told kinds.ultimate_receiver = (refl, refl, refl, refl, refl, unread refl, λ e. cc)
told kinds.date = (refl, refl, refl, refl, refl, unread refl, λ e. cc)
told kinds.time = (refl, refl, refl, refl, refl, unread refl, λ e. cc)
told kinds.time_or_none = (refl, refl, refl, refl, refl, unread refl, λ e. cc)
told kinds.file_number = (refl, refl, refl, refl, refl, unread refl, λ e. cc)
told kinds.physical_length = (refl, refl, refl, refl, refl, lengths refl reads-length, λ e. cc)
told kinds.block_size = (refl, refl, refl, refl, refl, unread refl, λ e. cc)
told kinds.version = (refl, refl, refl, refl, refl, unread refl, λ e. cc)
told kinds.group_status = (refl, refl, refl, refl, refl, unread refl, λ e. cc)
told kinds.currency = (refl, refl, refl, refl, refl, unread refl, λ e. cc)
told kinds.modifier = (refl, refl, refl, refl, refl, unread refl, λ e. cc)
told kinds.first_type = (refl, refl, refl, refl, refl, unread refl, λ e. cc)
told kinds.further_type = (refl, refl, refl, refl, refl, unread refl, λ e. cc)
told kinds.status_amount = (refl, refl, refl, refl, refl, amounts refl reads-status, λ e. cc)
told kinds.amount = (refl, refl, refl, refl, refl, amounts refl reads-amount, λ e. cc)
told kinds.item_count = (refl, refl, refl, refl, refl, unread refl, λ e. cc)
told kinds.funds = (refl, refl, refl, refl, refl, unread refl, λ e. cc)
told kinds.detail_type = (refl, refl, refl, refl, refl, unread refl, λ e. cc)
told kinds.text = (refl, refl, refl, refl, refl, unread refl, λ e. refl)
told kinds.further_text = (refl, refl, refl, refl, refl, unread refl, λ e. refl)
told kinds.split_amount = (refl, refl, refl, refl, refl, unread refl, λ e. cc)
told kinds.pair_count = (refl, refl, refl, refl, refl, unread refl, λ e. cc)
told kinds.days = (refl, refl, refl, refl, refl, unread refl, λ e. cc)
told kinds.day_amount = (refl, refl, refl, refl, refl, unread refl, λ e. cc)
told kinds.total = (refl, refl, refl, refl, refl, totals refl reads_total, λ e. cc)
told kinds.count = (refl, refl, refl, refl, refl, counts refl reads-count, λ e. cc)
told kinds.records = (refl, refl, refl, refl, refl, record-counts refl reads-records, λ e. cc)
told kinds.nothing = (refl, refl, refl, refl, refl, unread refl, λ e. cc)

-- a good field is kept as the rules read it
pub good-read : (kd : Kind) (bs : Bytes) (new : List Kind) (k : Kept) (p : ℕ) → judged kd bs ≡ good new
    → keep_read (purpose kd) k p bs ≡ keep_field k (record { kind = kd; place = p; bytes = bs })
unfolding keep_read keep_field keep_with
good-read kd bs new k p e = go (told kd).5
  where
    go : Reads kd → keep_read (purpose kd) k p bs ≡ keep_field k (record { kind = kd; place = p; bytes = bs })
    go (unread u) = rw u
    go (amounts u r) = rw (u, r bs new e)
    go (totals u r) = rw (u, r bs new e)
    go (counts u r) = rw (u, r bs new e)
    go (record-counts u r) = rw (u, r bs new e)
    go (lengths u r) = rw (u, r bs new e)
