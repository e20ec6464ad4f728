pub mod Filled
pub mod Models
pub mod Put
