pub mod Things
pub mod Meanings
pub mod Occurrences
pub mod Renamed
pub mod inner
