pub mod Interlocks
pub mod inner
