pub mod inner
pub mod Tickets
pub mod Told
