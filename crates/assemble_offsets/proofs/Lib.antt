pub mod Signed
pub mod Places
pub mod Totals
