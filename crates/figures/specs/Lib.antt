pub mod P
pub mod Others
pub mod Parcels
pub mod Casts
pub mod Cells
pub mod Walks
