-- Laws of the best trial.
pub mod Picked
