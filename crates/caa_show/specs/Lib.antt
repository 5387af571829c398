pub mod Interlocks
pub mod LinesOfSpots
pub mod Read
