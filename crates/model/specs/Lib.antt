pub mod Clear
pub mod Drawn
pub mod Entries
pub mod Layers
pub mod Paths
pub mod Sheets
pub mod Wide
