pub mod Containing
pub mod Ranges
pub mod LeastCovers
pub mod WorkedRows
pub mod Knowing
pub mod Coming
pub mod Running
pub mod Repeated
