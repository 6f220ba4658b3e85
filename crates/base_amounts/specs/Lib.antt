-- What reading an amount finds.
pub mod AmountsRead
