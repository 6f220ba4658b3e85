-- The checks of a record's lines, line by line.
mod LineCheckLaws
