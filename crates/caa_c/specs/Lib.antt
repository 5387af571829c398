pub mod inner
pub mod Codes
pub mod Handed
pub mod Machines
pub mod Opened
pub mod Sizes
pub mod Steps
