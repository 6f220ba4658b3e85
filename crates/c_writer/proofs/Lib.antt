-- What calls from C on any numbers do.
pub mod WriterStateLaws
