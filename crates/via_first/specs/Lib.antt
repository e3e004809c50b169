pub mod ViaFirst
pub mod ViaFirstLaws
