-- What the code's structs and enums mean in the rules' terms, and what stands in a draft's space.
pub mod DraftMeaning
pub mod DrawnLine
