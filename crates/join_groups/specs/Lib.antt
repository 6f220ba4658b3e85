-- What a group's 98 states, and what is taken of any bytes for a name.
pub mod StatedNumbers
pub mod GroupsTaken
