pub mod Trace
pub mod Walk
