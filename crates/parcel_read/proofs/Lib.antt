pub mod Fills
pub mod Opened
