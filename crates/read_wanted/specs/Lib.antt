-- What the wants and answers of the code stand for.
pub mod Wants
pub mod TakenMeaning
