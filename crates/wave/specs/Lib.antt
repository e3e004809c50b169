pub mod Offers
pub mod Spread
pub mod Questions
