-- What the enums and structs of the code stand for.
pub mod ValueMeanings
