-- Laws of points and places of a byte plane.
pub mod Cut
pub mod Bytes
