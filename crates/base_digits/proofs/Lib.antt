-- Laws that belong to no one function. Read in this order.
pub mod DigitTests
pub mod DigitStrings
pub mod ReadingLaws
pub mod SignLaws
pub mod TotalStrings
