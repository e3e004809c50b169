pub mod Surds
pub mod Squares
pub mod OrderLaws
