pub mod Links
pub mod Offering
pub mod Orders
pub mod Records
pub mod Removing
pub mod Rooms
pub mod Sifts
