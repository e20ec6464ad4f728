pub mod Laws
pub mod Models
pub mod Put
pub mod Refusals
pub mod Turns
