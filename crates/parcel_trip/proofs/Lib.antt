-- A layer that was written into a parcel is read back from it: `Trip.round_trip`.
pub mod Records
pub mod Read
pub mod Arrived
pub mod Trip
pub mod Shown
