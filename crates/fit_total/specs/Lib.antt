pub mod Counted
pub mod Around
pub mod Alike
