-- What a refusal means.
pub mod RefusalMeaning
