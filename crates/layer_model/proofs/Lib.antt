pub mod Fifth
