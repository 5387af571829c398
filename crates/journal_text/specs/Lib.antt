pub mod Texts
pub mod Watching
pub mod inner
