pub mod Emptying
pub mod Finding
pub mod Rounds
pub mod Taking
