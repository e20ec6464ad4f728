pub mod Fits
pub mod Layers
pub mod Told
