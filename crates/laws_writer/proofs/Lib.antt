-- From the numbers to the theorem, in this order.
pub mod NumberFields
pub mod FieldsWritten
pub mod LinesWritten
pub mod WalkWritten
pub mod Passed
pub mod Placing
pub mod Found
pub mod ItemsWritten
pub mod DetailsWritten
pub mod RecordsWritten
pub mod Further
pub mod Sound
pub mod CallsKept
pub mod Sessions
pub mod WriterTheorems
