pub mod Linking
pub mod Edits
pub mod Vouching
pub mod Windows
pub mod Keeping
pub mod Filing
