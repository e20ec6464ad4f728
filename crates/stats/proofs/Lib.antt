-- Laws of the call.
pub mod Runs
pub mod Ends
