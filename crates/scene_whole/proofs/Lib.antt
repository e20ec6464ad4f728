pub mod Points
pub mod Moved
pub mod Around
