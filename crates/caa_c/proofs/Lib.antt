pub mod AsBox
pub mod Compiling
pub mod Nulls
pub mod Reversed
