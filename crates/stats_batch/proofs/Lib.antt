-- Laws of arrays that are filled with steps, pixel by pixel.
pub mod Laws
