pub mod Facts
pub mod Tallies
pub mod inner
