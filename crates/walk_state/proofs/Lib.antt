-- Laws of a walk's numbers.
pub mod Numbers
