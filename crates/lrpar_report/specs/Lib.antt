pub mod Loops
pub mod FaultPlaces
