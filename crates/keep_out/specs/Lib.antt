pub mod Rectangles
pub mod KeptOut
pub mod ApartLaws
