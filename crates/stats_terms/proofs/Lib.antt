-- Laws of the terms.
pub mod Apart
