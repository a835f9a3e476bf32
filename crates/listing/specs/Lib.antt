pub mod Inputs
pub mod Ticks
pub mod Laws
pub mod Listings
pub mod Faults
pub mod Flights
