pub mod Short
pub mod Trip
