-- What the code's scans find, in terms of lines, checks and records.
pub mod LineLengthLaws
pub mod OneRecord
pub mod RunLengths
pub mod Blocks
pub mod Fronts
pub mod LineLaws
