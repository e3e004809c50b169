pub mod Numbering
pub mod Striding
pub mod Joining
pub mod Between
