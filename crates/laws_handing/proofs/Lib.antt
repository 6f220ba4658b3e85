-- From the places of records to the theorems, in this order.
pub mod RecordPlaces
pub mod FieldsTold
pub mod HandingTheorems
