pub mod Steps
pub mod Verdicts
pub mod Pass
pub mod Whole
