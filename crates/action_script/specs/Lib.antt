pub mod Words
pub mod Lines
pub mod Forms
pub mod Phrases
pub mod inner
