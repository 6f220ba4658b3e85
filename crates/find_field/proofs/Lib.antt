-- Laws that belong to no one function. Read in this order.
pub mod SearchAgrees
pub mod WalkFound
pub mod DetailFields
