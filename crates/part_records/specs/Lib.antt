-- The record that begins at a byte, as the code answers it.
pub mod RecordsFound
