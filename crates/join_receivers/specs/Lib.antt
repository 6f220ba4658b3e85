-- Whether a 02 names a receiver.
pub mod NamedReceiver
