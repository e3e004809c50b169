pub mod Offering
pub mod Spreading
pub mod Beginning
pub mod Asking
pub mod Reaching
