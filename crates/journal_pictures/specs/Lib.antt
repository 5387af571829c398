pub mod Marks
pub mod Pictures
pub mod Stretches
pub mod inner
