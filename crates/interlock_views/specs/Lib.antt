pub mod Broken
pub mod Hunts
pub mod Told
pub mod inner
