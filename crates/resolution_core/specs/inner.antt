-- Inner definitions, of what is kept of each place: who reads the claims of the program need not believe them.
pub mod Recoveries
pub mod Standing
