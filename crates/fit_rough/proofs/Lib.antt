pub mod Pixels
pub mod Whole
