-- Laws that belong to no one function. Read in this order.
pub mod FreshLaws
pub mod TrailerLengths
pub mod FitsLaws
