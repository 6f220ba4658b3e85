-- Kinds by their numbers.
pub mod KindLaws
