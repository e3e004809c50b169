pub mod Prices
pub mod Texts
