-- The reader's answers, by the cases of its code; that its step is the rules' step, and the loop over records.
pub mod SummaryBounds
pub mod SettleLaws
pub mod SettledRecords
pub mod StepAgrees
pub mod StepLaws
pub mod FileRunLaws
pub mod GoodFiles
