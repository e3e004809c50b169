pub mod Changes
pub mod Costs
pub mod Counting
pub mod Numbers
pub mod Offers
