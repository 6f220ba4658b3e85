-- What the walk yields: that it is the rules' walk, what it is at the places that the code reaches, and what `next_field` promises there.
pub mod TraceAgrees
pub mod OwnLines
pub mod TraceLaws
pub mod CursorLaws
