pub mod Chosen
pub mod Counted
pub mod Halves
pub mod Lowered
pub mod Numbers
pub mod SetChains
pub mod Sizes
pub mod Unions
