-- The lines that end a group and the file.
pub mod EndLines
