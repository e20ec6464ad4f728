pub mod Signed
pub mod Numbers
pub mod Plans
