pub mod Past
pub mod Spots
pub mod Waits
