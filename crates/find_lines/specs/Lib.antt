-- Lines of two codes in bytes and in lines.
pub mod LinesOfCode
