pub mod Spots
pub mod SpotLaws
