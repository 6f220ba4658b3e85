-- What the code's structs and answers mean in the rules' terms.
pub mod NumbersRead
