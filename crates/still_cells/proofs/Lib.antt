pub mod Whole
pub mod Places
pub mod Covered
