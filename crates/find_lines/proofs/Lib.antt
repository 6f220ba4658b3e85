-- Where lines of a code begin, block by block and byte by byte.
pub mod LineSearch
