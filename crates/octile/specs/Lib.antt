pub mod Octile
pub mod OctileLaws
