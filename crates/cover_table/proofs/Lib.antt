pub mod AddedUppers
pub mod Bits
pub mod Least
pub mod NextAbove
pub mod Orders
