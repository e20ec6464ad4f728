-- Laws of floats that the proofs cite.
pub mod Basics
pub mod Half
pub mod Held
pub mod Index
pub mod Floor
