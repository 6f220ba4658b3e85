-- What is kept: by the cases of the code; its bounds; and that it is what the rules' folds give.
pub mod AddAmounts
pub mod KeptBounds
pub mod EachKind
pub mod KeptSums
pub mod StatedLaws
pub mod KeepAllLaws
