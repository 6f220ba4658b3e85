-- The walk over a record as what it yields, field by field, and where it stands between two fields.
pub mod FieldTrace
pub mod CursorMeaning
