pub mod Pass
pub mod Accepted
pub mod Tables
