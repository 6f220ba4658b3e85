-- The rules' refusal that a `Refusal` of the code stands for. Assumes nothing.
use Rattle.std.specs.Prelude.{ℕ, Result, Ok, Err}
use Rattle.rules.specs.Outcome as rules
use Rattle.base_refusals.specs.declared.Reason.{Reason}
use Rattle.base_refusals.specs.declared.Reason.TheVariants as reasons
use Rattle.base_refusals.specs.declared.Refusal.{Refusal}

-- a reason's number in the rules
abbrev pub reason_number : Reason → ℕ
reason_number reasons.EmptyFile = 1
reason_number reasons.FileTooLong = 2
reason_number reasons.LineTooLong = 3
reason_number reasons.ByteNotAllowed = 4
reason_number reasons.NoRecordCode = 5
reason_number reasons.RecordOutOfOrder = 6
reason_number reasons.LineBadlyEnded = 7
reason_number reasons.WrongField = 8
reason_number reasons.WrongVersion = 9
reason_number reasons.AmountsTooLarge = 10
reason_number reasons.WrongTotal = 11
reason_number reasons.WrongCount = 12
reason_number reasons.WrongRecordCount = 13
reason_number reasons.SumTooLarge = 14
reason_number reasons.NoRoom = 15
reason_number reasons.NotAName = 16
reason_number reasons.NoSuchPart = 17
reason_number reasons.ResultTooLong = 18
reason_number reasons.OutOfTurn = 19
reason_number reasons.WrongFieldGiven = 20

abbrev pub refusal_meant : Refusal → rules.Refusal
refusal_meant why = record { number = reason_number why.reason; place = why.place.0 }

-- an answer, or why it is refused, where the answer's own meaning is known
abbrev pub outcome_of : {A B : Type 0} → (A → B) → Result A Refusal → rules.Outcome B
outcome_of meant (Ok a) = rules.fine (meant a)
outcome_of meant (Err why) = rules.refused (refusal_meant why)
