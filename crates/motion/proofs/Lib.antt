-- Laws of the readers of motion.
pub mod Fields
