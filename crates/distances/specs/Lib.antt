pub mod Call
pub mod Level
pub mod Pass
