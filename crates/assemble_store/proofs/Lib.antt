pub mod Luma
pub mod Chroma
pub mod Rows
