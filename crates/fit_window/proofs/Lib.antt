-- Laws of the search.
pub mod Held
pub mod Unseen
