pub mod Endings
pub mod Nevers
pub mod Untried
pub mod inner
