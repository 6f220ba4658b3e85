-- A list of one code holds what that code is.
mod OrderLaws
