pub mod Waiting
pub mod Links
pub mod Rows
