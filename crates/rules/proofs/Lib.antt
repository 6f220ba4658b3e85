-- Laws of the definitions that code and theorems use.
pub mod Tests
pub mod CodeLaws
pub mod Binds
pub mod LineLaws
pub mod CellLaws
pub mod RunLaws
pub mod PartLaws
pub mod Accepted
