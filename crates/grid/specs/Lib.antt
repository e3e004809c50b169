pub mod Axes
pub mod Faults
pub mod Places
pub mod Shapes
pub mod Sites
pub mod Steps
pub mod Strides
pub mod Texts
