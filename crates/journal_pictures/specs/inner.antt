-- Inner definitions, of how stretches are found and drawn: who reads the claims of the program need not believe them.
pub mod Lanes
pub mod Parts
