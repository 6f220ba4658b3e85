-- What the writer's numbers and answers to C say in document 01's terms.
pub mod WriterFigures
