-- What a trailer must say by the tests of the code, and where its refusals stand.
mod TrailerLaws
pub mod TrailerPlaces
