-- The walk over a record's fields that keeps by value what the later checks need, and how it joins the rules' walk.
pub mod WalkKept
pub mod WalkAnswers
pub mod WalkJoins
