pub mod Pass
pub mod Table
