-- Laws for whoever cites the transform, and the way to them.
pub mod Laws
mod Grid
mod Steps
mod Passes
