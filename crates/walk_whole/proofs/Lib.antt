pub mod Chunks
pub mod Along
pub mod Layers
pub mod Goes
pub mod Reached
pub mod Shown
