-- The lines of a report, by their parts and by their cases.
pub mod LineParts
pub mod ReportLaws
