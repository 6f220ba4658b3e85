-- The items that are read are the rules' items; and what the call answers.
pub mod ItemsRead
pub mod ItemAnswers
