pub mod Calls
pub mod ClearLaws
pub mod DrawnLaws
pub mod NarrowLaws
pub mod PathLaws
pub mod Tallies
pub mod WideLaws
