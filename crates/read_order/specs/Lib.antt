-- The codes that may come next.
pub mod ExpectedCodes
