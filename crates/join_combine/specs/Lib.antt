-- What the call's answer means.
pub mod CombineAnswers
