pub mod Alone
pub mod Fronts
pub mod Lines
pub mod Measured
