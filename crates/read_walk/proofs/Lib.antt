-- The walk that keeps: that it joins the rules' walk; its bounds; and what it gives at the places that the code reaches.
pub mod WalkAgrees
pub mod WalkJoining
pub mod WalkBounds
pub mod LineParts
pub mod FirstCells
pub mod WalkLaws
