pub mod Rectilinear
pub mod RectilinearLaws
