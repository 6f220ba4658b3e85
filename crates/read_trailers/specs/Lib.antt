-- What a trailer must say.
pub mod TrailerChecks
