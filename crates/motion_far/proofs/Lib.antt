-- Laws of a field's distances.
pub mod Fields
