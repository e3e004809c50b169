pub mod Roots
pub mod Order
pub mod Separation
pub mod Entries
pub mod Scale
