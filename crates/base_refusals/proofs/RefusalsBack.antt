-- No two reasons share a number, and none has the number 0: a refusal can be had back from its meaning, and no refusal is taken for an answer. Assumes nothing.
use Rattle.std.specs.Prelude.{ℕ, false, cond, eqb, ◌≡◌, Result, Ok, Err}
use mathlib.Core.Path.{refl, ap}
use Rattle.rules.specs.Outcome as rules
use Rattle.base_refusals.specs.declared.Reason.{Reason}
use Rattle.base_refusals.specs.declared.Reason.TheVariants as reasons
use Rattle.base_refusals.specs.declared.Refusal.{Refusal}
use Rattle.base_refusals.specs.RefusalMeaning.{reason_number, refusal_meant}

-- the reason of this number
abbrev pub reason_from : ℕ → Reason
reason_from n =
    cond (eqb n 1) reasons.EmptyFile
    (cond (eqb n 2) reasons.FileTooLong
    (cond (eqb n 3) reasons.LineTooLong
    (cond (eqb n 4) reasons.ByteNotAllowed
    (cond (eqb n 5) reasons.NoRecordCode
    (cond (eqb n 6) reasons.RecordOutOfOrder
    (cond (eqb n 7) reasons.LineBadlyEnded
    (cond (eqb n 8) reasons.WrongField
    (cond (eqb n 9) reasons.WrongVersion
    (cond (eqb n 10) reasons.AmountsTooLarge
    (cond (eqb n 11) reasons.WrongTotal
    (cond (eqb n 12) reasons.WrongCount
    (cond (eqb n 13) reasons.WrongRecordCount
    (cond (eqb n 14) reasons.SumTooLarge
    (cond (eqb n 15) reasons.NoRoom
    (cond (eqb n 16) reasons.NotAName
    (cond (eqb n 17) reasons.NoSuchPart
    (cond (eqb n 18) reasons.ResultTooLong
    (cond (eqb n 19) reasons.OutOfTurn reasons.WrongFieldGiven))))))))))))))))))

pub same_reason : (r : Reason) → reason_from (reason_number r) ≡ r
same_reason reasons.EmptyFile = refl
same_reason reasons.FileTooLong = refl
same_reason reasons.LineTooLong = refl
same_reason reasons.ByteNotAllowed = refl
same_reason reasons.NoRecordCode = refl
same_reason reasons.RecordOutOfOrder = refl
same_reason reasons.LineBadlyEnded = refl
same_reason reasons.WrongField = refl
same_reason reasons.WrongVersion = refl
same_reason reasons.AmountsTooLarge = refl
same_reason reasons.WrongTotal = refl
same_reason reasons.WrongCount = refl
same_reason reasons.WrongRecordCount = refl
same_reason reasons.SumTooLarge = refl
same_reason reasons.NoRoom = refl
same_reason reasons.NotAName = refl
same_reason reasons.NoSuchPart = refl
same_reason reasons.ResultTooLong = refl
same_reason reasons.OutOfTurn = refl
same_reason reasons.WrongFieldGiven = refl

pub not_numbered_0 : (r : Reason) → eqb (reason_number r) 0 ≡ false
not_numbered_0 reasons.EmptyFile = refl
not_numbered_0 reasons.FileTooLong = refl
not_numbered_0 reasons.LineTooLong = refl
not_numbered_0 reasons.ByteNotAllowed = refl
not_numbered_0 reasons.NoRecordCode = refl
not_numbered_0 reasons.RecordOutOfOrder = refl
not_numbered_0 reasons.LineBadlyEnded = refl
not_numbered_0 reasons.WrongField = refl
not_numbered_0 reasons.WrongVersion = refl
not_numbered_0 reasons.AmountsTooLarge = refl
not_numbered_0 reasons.WrongTotal = refl
not_numbered_0 reasons.WrongCount = refl
not_numbered_0 reasons.WrongRecordCount = refl
not_numbered_0 reasons.SumTooLarge = refl
not_numbered_0 reasons.NoRoom = refl
not_numbered_0 reasons.NotAName = refl
not_numbered_0 reasons.NoSuchPart = refl
not_numbered_0 reasons.ResultTooLong = refl
not_numbered_0 reasons.OutOfTurn = refl
not_numbered_0 reasons.WrongFieldGiven = refl

-- the code's refusal that stands for one of the rules
abbrev pub refusal_from : rules.Refusal → Refusal
refusal_from why = record { reason = reason_from why.number; place = record { 0 = why.place } }

pub same-refusal : (why : Refusal) → refusal_from (refusal_meant why) ≡ why
same-refusal why = ap (λ (r : Reason). record { reason = r; place = why.place }) (same_reason why.reason)

-- an answer or a refusal from the rules' refusal beside the answer: number 0 where it is fine
abbrev pub result_from : {A : Type 0} → A → rules.Refusal → Result A Refusal
result_from a why = cond (eqb why.number 0) (Ok a) (Err (refusal_from why))

pub same_err : {A : Type 0} (a : A) (why : Refusal) → result_from a (refusal_meant why) ≡ Err why
same_err a why = rw (not_numbered_0 why.reason) (ap Err (same-refusal why))
