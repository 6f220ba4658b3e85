-- What a summary says.
pub mod SummaryMeaning
