-- Laws of the tests that the code makes.
pub mod DateLaws
pub mod TypeLaws
