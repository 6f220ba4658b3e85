-- The lines of the calls, as fields added one after the other, and the items that they are given.
pub mod RecordLines
pub mod ItemMeaning
