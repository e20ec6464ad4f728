-- Laws of the sums.
pub mod Pixels
pub mod Table
