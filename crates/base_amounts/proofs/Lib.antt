-- The amount that is read is the rules' amount.
pub mod AmountLaws
