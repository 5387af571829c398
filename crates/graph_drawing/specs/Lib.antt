pub mod Layers
pub mod Spots
