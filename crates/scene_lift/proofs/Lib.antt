pub mod Sides
pub mod Gathers
pub mod Means
