-- What the tests say where they hold.
pub mod Accepted
