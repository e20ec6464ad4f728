pub mod Unseen
pub mod Due
pub mod Accepted
