-- What is written down: entries, journals, names, numbers and lines.
pub mod Journal
pub mod Limits
pub mod Lines
pub mod Lists
pub mod Marks
pub mod Mixing
pub mod Names
