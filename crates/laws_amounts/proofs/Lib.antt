-- From digits and signs, and from the grammar's kinds, to the theorems, in this order.
pub mod GivenForms
pub mod KindsAsked
pub mod FieldsFollow
pub mod ItemForms
pub mod DetailForms
pub mod AccountForms
pub mod ItemNumbers
pub mod AmountTheorems
