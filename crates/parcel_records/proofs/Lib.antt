pub mod Split
pub mod Walk
