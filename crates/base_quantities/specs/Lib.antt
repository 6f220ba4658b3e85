-- What sums, counts and places mean.
pub mod QuantityMeanings
