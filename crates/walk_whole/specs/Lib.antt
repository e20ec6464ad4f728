pub mod Calls
pub mod Whole
pub mod Shown
