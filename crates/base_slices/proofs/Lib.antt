-- Laws that belong to no one function. Read in this order.
pub mod WroteLaws
