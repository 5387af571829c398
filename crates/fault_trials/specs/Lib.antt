pub mod Puts
pub mod Classes
pub mod Measures
pub mod Tables
