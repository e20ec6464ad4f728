pub mod Measured
pub mod Accepted
