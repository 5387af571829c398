pub mod Counting
pub mod NoWork
