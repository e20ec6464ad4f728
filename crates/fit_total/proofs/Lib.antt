-- Laws of totals.
pub mod Held
